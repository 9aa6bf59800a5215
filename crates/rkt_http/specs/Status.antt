-- Classes and reasons of statuses (RFC 9110, 15).
use Rattle.std.specs.Prelude.{ℕ, List, [], ◌∷◌, Option, codes, ◌==◌, ◌/◌, if◌then◌else◌}
use Rattle.rkt_http.specs.Table.{row_at}
use Rattle.rkt_http.specs.declared.status.StatusClass.{StatusClass}
use Rattle.rkt_http.specs.declared.status.StatusClass.TheVariants.{Informational, Success, Redirection, ClientError, ServerError, Unknown}

-- the class of these hundreds
abbrev pub class_of_hundreds : ℕ → StatusClass
class_of_hundreds n = if n == 1 then Informational
    else (if n == 2 then Success
    else (if n == 3 then Redirection
    else (if n == 4 then ClientError
    else (if n == 5 then ServerError else Unknown))))

abbrev pub class_of : ℕ → StatusClass
class_of code = class_of_hundreds (code / 100)

-- each code that has a reason, with its reason
unfoldable pub reasons : List (ℕ × List ℕ)
reasons = (100, codes "Continue") ∷
    (101, codes "Switching Protocols") ∷
    (102, codes "Processing") ∷
    (200, codes "OK") ∷
    (201, codes "Created") ∷
    (202, codes "Accepted") ∷
    (203, codes "Non-Authoritative Information") ∷
    (204, codes "No Content") ∷
    (205, codes "Reset Content") ∷
    (206, codes "Partial Content") ∷
    (207, codes "Multi-Status") ∷
    (208, codes "Already Reported") ∷
    (226, codes "IM Used") ∷
    (300, codes "Multiple Choices") ∷
    (301, codes "Moved Permanently") ∷
    (302, codes "Found") ∷
    (303, codes "See Other") ∷
    (304, codes "Not Modified") ∷
    (305, codes "Use Proxy") ∷
    (307, codes "Temporary Redirect") ∷
    (308, codes "Permanent Redirect") ∷
    (400, codes "Bad Request") ∷
    (401, codes "Unauthorized") ∷
    (402, codes "Payment Required") ∷
    (403, codes "Forbidden") ∷
    (404, codes "Not Found") ∷
    (405, codes "Method Not Allowed") ∷
    (406, codes "Not Acceptable") ∷
    (407, codes "Proxy Authentication Required") ∷
    (408, codes "Request Timeout") ∷
    (409, codes "Conflict") ∷
    (410, codes "Gone") ∷
    (411, codes "Length Required") ∷
    (412, codes "Precondition Failed") ∷
    (413, codes "Payload Too Large") ∷
    (414, codes "URI Too Long") ∷
    (415, codes "Unsupported Media Type") ∷
    (416, codes "Range Not Satisfiable") ∷
    (417, codes "Expectation Failed") ∷
    (418, codes "I'm a teapot") ∷
    (421, codes "Misdirected Request") ∷
    (422, codes "Unprocessable Entity") ∷
    (423, codes "Locked") ∷
    (424, codes "Failed Dependency") ∷
    (426, codes "Upgrade Required") ∷
    (428, codes "Precondition Required") ∷
    (429, codes "Too Many Requests") ∷
    (431, codes "Request Header Fields Too Large") ∷
    (451, codes "Unavailable For Legal Reasons") ∷
    (500, codes "Internal Server Error") ∷
    (501, codes "Not Implemented") ∷
    (502, codes "Bad Gateway") ∷
    (503, codes "Service Unavailable") ∷
    (504, codes "Gateway Timeout") ∷
    (505, codes "HTTP Version Not Supported") ∷
    (506, codes "Variant Also Negotiates") ∷
    (507, codes "Insufficient Storage") ∷
    (508, codes "Loop Detected") ∷
    (510, codes "Not Extended") ∷
    (511, codes "Network Authentication Required") ∷
    []

-- the reason of a code, if it has one
abbrev pub reason_of : ℕ → Option (List ℕ)
reason_of code = row_at code reasons

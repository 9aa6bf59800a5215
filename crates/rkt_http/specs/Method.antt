-- The methods of a request (RFC 9110, 9.3, and RFC 5789).
use Rattle.std.specs.Prelude.{ℕ, List, [], ◌∷◌, Option, codes, nat_eq, find, Bool, true, false}
use Rattle.std.specs.Cmp.Lexicographic.{pointwise}
use Rattle.std.specs.Str.{str_eq_ignore_ascii_case}
use Rattle.rkt_http.specs.declared.method.Method.{Method}
use Rattle.rkt_http.specs.declared.method.Method.TheVariants.{Get, Put, Post, Delete, Options, Head, Trace, Connect, Patch}

-- the name of a method, as a request line has it
abbrev pub method_name : Method → List ℕ
method_name Get = codes "GET"
method_name Put = codes "PUT"
method_name Post = codes "POST"
method_name Delete = codes "DELETE"
method_name Options = codes "OPTIONS"
method_name Head = codes "HEAD"
method_name Trace = codes "TRACE"
method_name Connect = codes "CONNECT"
method_name Patch = codes "PATCH"

-- all methods
abbrev pub methods : List Method
methods = Get ∷ Put ∷ Post ∷ Delete ∷ Options ∷ Head ∷ Trace ∷ Connect ∷ Patch ∷ []

-- the method of exactly this name
abbrev pub method_of : List ℕ → Option Method
method_of text = find (λ method. pointwise nat_eq (method_name method) text) methods

-- the method of this name in any case
abbrev pub method_of_any_case : List ℕ → Option Method
method_of_any_case text = find (λ method. str_eq_ignore_ascii_case (method_name method) text) methods

-- the methods whose requests carry a payload
abbrev pub carries_payload : Method → Bool
carries_payload Put = true
carries_payload Post = true
carries_payload Delete = true
carries_payload Patch = true
carries_payload _ = false

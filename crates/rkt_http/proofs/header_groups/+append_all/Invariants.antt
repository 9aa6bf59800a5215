use Rattle.std.specs.Vec.Iter.{into_iter_len}
use Rattle.rkt_http.proofs.header_groups.+append_all.Given as goal

abbrev pub decreases-append_all : goal.decreases-append_all
decreases-append_all l = into_iter_len l.others

use Rattle.std.proofs.Common.{◌≡◌, drop, map}
use Rattle.rkt_http.specs.Table.{row_at}
use Rattle.rkt_http.proofs.table.text_at.Given as goal

-- the rows that are left decide
abbrev pub invariant-loop-row : goal.invariant-loop-row
invariant-loop-row l = row_at l.code (map (λ row. (row.0.code, row.1.now)) (drop l.row-index l.rows)) ≡ row_at l.code (map (λ row. (row.0.code, row.1.now)) l.rows)

-- `code_rows` meets its contract. The loop's invariant: each turn is a row of the definition. Assumes nothing.
use Rattle.columns.proofs.Turns.{Midway}
use Rattle.columns.proofs.row_by_row.code_rows.Given as goal

abbrev pub invariant-loop-i : goal.invariant-loop-i
invariant-loop-i g l = Midway (g.C.Coding.coded l.rule) g.C.Coding.FROM g.C.Coding.TO l.rows l.input l.initial.output l.output l.i

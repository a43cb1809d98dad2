-- `write` meets its contract: the test of the year on its bits, and the packed fields. Assumes nothing.
use borrow.Author.Rules.{rules}
use mathlib.Core.Path.{◌≡◌, sym, ◌∙◌}
use mir.Syntax.{w64}
use mir.Val.{SFits, of_z}
use mir.Facts.{to_z-of_z}
use Rattle.packing.proofs.Packing.{packs, packing, written, unwritten}
use Rattle.packing.proofs.write.write.Goals as goal
use Rattle.packing.proofs.write.write.Given.{Over}
use Rattle.packing.proofs.write.write.Goals.{After-to_bits-y}

-- the year's bits
bits_are : (g : Over) (c : After-to_bits-y g) → c.to_bits-y.result ≡ of_z w64 c.args.c.year
bits_are g c =
    let y : SFits w64 c.args.c.year = search rules in
    rw (to_z-of_z y) at c.to_bits-y.ensures

pub pack-requires : goal.pack-requires
pack-requires g c =
    packs (packing c.args.l c.args.c c.requires.writable.0 c.requires.writable.1 _ (bits_are g (goal.at.pack-requires g c).After-to_bits-y) (sym c.writes_year.ensures ∙ c.if-writes_year.true) c.requires.digits)

pub returns-then-writes_year : goal.returns-then-writes_year
returns-then-writes_year g c =
    written c.args.l c.args.c c.requires.writable.0 c.requires.writable.1 _ (bits_are g (goal.at.returns-then-writes_year g c).After-to_bits-y) (sym c.writes_year.ensures ∙ c.if-writes_year.true) _ c.pack.ensures

pub returns-else-writes_year : goal.returns-else-writes_year
returns-else-writes_year g c =
    unwritten c.args.l c.args.c c.requires.writable.0 c.requires.writable.1 _ (bits_are g (goal.at.returns-else-writes_year g c).After-to_bits-y) (sym c.writes_year.ensures ∙ c.if-writes_year.false)

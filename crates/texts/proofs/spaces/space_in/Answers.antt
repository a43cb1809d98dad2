-- `texts::spaces::space_in` meets its contract: the first space stands behind as many bytes as stand before it. Assumes
-- nothing.
use Rattle.std.proofs.Common.{◌≡◌, ◌≢◌, length, rules, tests, sym, ◌∙◌}
use Rattle.std.proofs.lemmas.Iterator.{IsFirst-from_position, YieldsList-from_slice, index_from_first}
use Rattle.texts.specs.Spaces.{before_space}
use Rattle.texts.proofs.FirstSpace.{before_none, before_hit, before_miss, before_first, after_first}
use Rattle.texts.proofs.spaces.space_in.Goals as goal
use Rattle.texts.proofs.spaces.space_in.Goals.{After-unwrap_or}

found : (c : After-unwrap_or) → length (before_space c.args.s.now) ≡ c.unwrap_or.result
found c =
    let first = IsFirst-from_position _ _ c.position.result (λ x. x ≡ 32) (λ x. x ≢ 32) c.position.ensures.ran (YieldsList-from_slice c.args.s.now cc) (λ x q k. search (rules, tests)) (λ x q k. search (rules, tests)) in
    index_from_first (λ s. length (before_space s)) (λ x. x ≡ 32) (λ x. x ≢ 32) before_none before_hit before_miss c.args.s.now c.position.result first ∙ sym c.unwrap_or.ensures

pub returns-clause-before : goal.returns-clause-before
returns-clause-before c = rw (← found c) (before_first c.args.s.now)

pub returns-clause-after : goal.returns-clause-after
returns-clause-after c = rw (← found c) (after_first c.args.s.now)

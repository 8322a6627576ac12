use Rattle.std.proofs.Common.{◌≡◌, ℕ, ◌≤◌, Bool, ◌&&◌}
use Rattle.rules.specs.First.{first}
use Rattle.repair.proofs.best.best_of.Given as goal

abbrev pub invariant-loop-x : goal.invariant-loop-x
invariant-loop-x g l =
    goal.F-IsAlwaysCallable g l.test ×
    (goal.iterator-loop-x g).can_next l.x-iterator ×
    (goal.iterator-loop-x g).is_finite l.x-iterator ×
    (l.x-iterator.set ≡ l.fn.members.set) × (l.x-iterator.end ≡ l.fn.members.end) ×
    (l.fn.members.from ≡ 0 → l.x-iterator.from ≤ l.fn.members.end) ×
    (g.S.NextMember.reliable l.fn.members.set → l.fn.members.from ≡ 0 → (test : ℕ → Bool) → ((x : ℕ) (b : Bool) → goal.F-post g l.fn.test x b → b ≡ test x) →
    l.best ≡ first (g.R.Ranking.before l.ranking l.a) l.x-iterator.from (λ x. g.S.NextMember.member l.fn.members.set x && test x))

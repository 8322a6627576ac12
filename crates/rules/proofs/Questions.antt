-- What a question answers, and that it changes nothing.
use Rattle.std.proofs.Common.{◌≡◌, ℕ, ◌<◌, ◌&&◌, Bool, true, leb, Some, None, Option, sym, refl, inl, inr, arith}
use Rattle.std.proofs.lemmas.Bool.{cases_lt, and_parts, and_from, and_left, and_right, both_ways, lt-leb, le-leb, lt-ltb, leb-true}
use Rattle.std.proofs.lemmas.Bool.Decides.{nat_tests}
use Rattle.graph.specs.Graph.{Next}
use Rattle.links.specs.Refusals.{Reason}
use Rattle.ranking.specs.Order.{StrictOrder, lower}
use Rattle.rules.specs.Calls.{Position, Call, link, unlink, withdraw, depart, ask_partner, ask_free_links, ask_next_free, ask_pairs, is_question, reason, unless, after}
use Rattle.rules.specs.First.{first}
use Rattle.rules.specs.Repair.{Ranking}
use Rattle.rules.proofs.First.{first_is}

unless_same : (o : Option Reason) (x : Position) → unless o x x ≡ x
unless_same None x = refl
unless_same (Some r) x = refl

pub question_same : (before : Ranking) (x : Position) (c : Call) → is_question c ≡ true → after before x c ≡ x
question_same before x (link a b) asks = cc
question_same before x (unlink a b) asks = cc
question_same before x (withdraw a) asks = cc
question_same before x (depart a) asks = cc
question_same before x (ask_partner a) asks = unless_same (reason x (ask_partner a)) x
question_same before x (ask_free_links a) asks = unless_same (reason x (ask_free_links a)) x
question_same before x (ask_next_free a from) asks = unless_same (reason x (ask_next_free a from)) x
question_same before x ask_pairs asks = refl

lower_order : StrictOrder lower
lower_order = record {
  irreflexive = λ x. grind (arith, nat_tests);
  transitive = λ x y z e f. grind (arith, nat_tests);
  total = λ x y e f. grind (arith, nat_tests);
}

-- the smallest number at or above `from` that passes a test, which none from n on does
pub next_is : (test : ℕ → Bool) (n from : ℕ) → ((z : ℕ) → test z ≡ true → z < n) → (r : Option ℕ) → Next test from r →
    r ≡ first lower n (λ z. test z && leb from z)
next_is test n from below None none =
    sym ((first_is lower lower_order n (λ z. test z && leb from z)).otherwise (λ z inside. elim (cases_lt z from) [
      | inl h ↦ and_right (test z) (leb from z) (lt-leb from z h)
      | inr h ↦ and_left (test z) (leb from z) (none z h)
    ]))
next_is test n from below (Some k) next =
    sym ((first_is lower lower_order n (λ z. test z && leb from z)).only k (record {
      inside = below k next.hit;
      passes = and_from (test k) (leb from k) next.hit (le-leb from k next.past);
      leads = λ y inside passes apart.
          let (hit, past) = and_parts (test y) (leb from y) passes in
          elim (cases_lt k y) [
            | inl h ↦ lt-ltb k y h
            | inr h ↦ absurd (both_ways (test y) (next.before y (leb-true from y past) (omega (arith, apart))) hit)
          ];
    }))

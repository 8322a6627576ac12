-- Every call keeps a position sound, and changes few partners.
use Rattle.std.proofs.Common.{◌≡◌, ℕ, ◌*◌, ◌<◌, ◌≤◌, [], Some, None, sym, refl, ap, subst, arith}
use Rattle.graph.specs.Graph.{Graph, Simple, link_count, added, removed}
use Rattle.graph.specs.Isolated.{isolated}
use Rattle.graph.proofs.Changes.{added_simple, removed_simple, isolated_simple}
use Rattle.graph.proofs.Partners.{partner_below}
use Rattle.links.specs.Books.{Ledger, Bounded, adding, removing}
use Rattle.links.specs.Refusals.{Reason}
use Rattle.links.specs.declared.refusal.Layer.TheVariants.{Board}
use Rattle.links.proofs.Reasons.{two_none, adding_none, removing_none}
use Rattle.rules.specs.Calls.{Position, Call, link, unlink, withdraw, depart, ask_partner, ask_free_links, ask_next_free, ask_pairs, reason, granted, unless, after, opened}
use Rattle.rules.specs.Health.{Healthy, Sound, Follows}
use Rattle.rules.specs.Laws.{most, allowed, Within, KeepsSound}
use Rattle.rules.specs.Repair.{Ranking}
use Rattle.rules.specs.Threshold.{threshold}
use Rattle.rules.proofs.CallChanges.{link_six, unlink_twelve, withdraw_seven, depart_two}
use Rattle.rules.proofs.Changes.{AtMost, at_most_count}
use Rattle.rules.proofs.Fewer.{unlink_healthy, withdraw_healthy, isolated_two_simple, depart_healthy}
use Rattle.rules.proofs.Ledgers.{follows_self, follows_bounded, link_follows, unlink_follows, withdraw_follows, depart_follows}
use Rattle.rules.proofs.Linking.{link_healthy}
use Rattle.rules.proofs.Opening.{opening_healthy}
use Rattle.rules.proofs.Reasons.{load_none, by_reason}
use Rattle.rules.proofs.Threshold.{threshold_least}

-- the threshold is enough for the links that the limit allows
few_links : (limit n : ℕ) → n ≤ limit → 2 * n ≤ threshold limit * threshold limit
few_links limit n within = omega (arith, (threshold_least limit).enough)

pub opening_sound : (before : Ranking) (g : Graph) (l : Ledger) → Simple g → Bounded g l → Sound (opened before g l)
opening_sound before g l s b = record {
  simple = s;
  bounded = b;
  healthy = opening_healthy before g (threshold l.limit) s (few_links l.limit (link_count g) b.within);
}

-- from x to y with at most n changes
record Leads (n : ℕ) (x y : Position) : Type 0 where
  simple : Simple y.graph
  follows : Follows x y
  healthy : link_count y.graph ≤ x.ledger.limit → Healthy y.graph (threshold x.ledger.limit) y.partners
  few : link_count y.graph ≤ x.ledger.limit → AtMost n x.partners y.partners

nothing : (n : ℕ) (x : Position) → Sound x → Leads n x x
nothing n x k = record {
  simple = k.simple;
  follows = follows_self x;
  healthy = λ _. k.healthy;
  few = λ _. ([], omega arith, λ w _. refl);
}

leads_kept : (x : Position) (c : Call) (y : Position) → Sound x → Leads (allowed (reason x c) c) x y → link_count y.graph ≤ x.ledger.limit → KeepsSound x c y
leads_kept x c y k h within = record {
  sound = record {
    simple = h.simple;
    bounded = follows_bounded x y k.simple h.simple k.bounded h.follows within;
    healthy = subst (λ (limit : ℕ). Healthy y.graph (threshold limit) y.partners) (sym h.follows.limit) (h.healthy within);
  };
  few = at_most_count x.graph.size (allowed (reason x c) c) x.partners y.partners (h.few within);
}

module _ (before : Ranking) (x : Position) (k : Sound x) where
  abbrev limit : ℕ
  limit = x.ledger.limit

  abbrev t : ℕ
  t = threshold limit

  link_leads : (a b : ℕ) → reason x (link a b) ≡ None → Leads 6 x (granted before x (link a b))
  link_leads a b none =
      let (two, none') = two_none Board x.graph.size a b (adding x.graph x.ledger a b) none in
      let free = adding_none x.graph x.ledger a b none' in
      let g = added x.graph a b in
      record {
        simple = added_simple x.graph a b k.simple two.apart two.a_below two.b_below;
        follows = link_follows x.graph k.simple x.ledger x.partners (granted before x (link a b)).partners a b free;
        healthy = λ within. link_healthy before x.graph t a b x.partners k.simple two.apart two.a_below two.b_below
            (few_links limit (link_count g) within) k.healthy;
        few = λ within. link_six before x.graph t a b x.partners k.simple two.apart two.a_below two.b_below
            (few_links limit (link_count g) within) k.healthy;
      }

  unlink_leads : (a b : ℕ) → reason x (unlink a b) ≡ None → Leads 12 x (granted before x (unlink a b))
  unlink_leads a b none =
      let (_, none') = two_none Board x.graph.size a b (removing x.graph a b) none in
      let linked = removing_none x.graph a b none' in
      let g = removed x.graph a b in
      record {
        simple = removed_simple x.graph a b k.simple;
        follows = unlink_follows x.graph k.simple x.ledger x.partners (granted before x (unlink a b)).partners a b linked;
        healthy = λ within. unlink_healthy before x.graph t a b x.partners k.simple (few_links limit (link_count g) within) k.healthy;
        few = λ within. unlink_twelve before x.graph t a b x.partners k.simple (few_links limit (link_count g) within) k.healthy;
      }

  withdraw_leads : (a : ℕ) → reason x (withdraw a) ≡ None → Leads 7 x (granted before x (withdraw a))
  withdraw_leads a none =
      let (below, _) = load_none x.graph a None none in
      let g = isolated x.graph a in
      record {
        simple = isolated_simple x.graph a k.simple;
        follows = withdraw_follows x.graph k.simple x.ledger x.partners (granted before x (withdraw a)).partners a below;
        healthy = λ within. withdraw_healthy before x.graph t a x.partners k.simple (few_links limit (link_count g) within) k.healthy;
        few = λ _. withdraw_seven before t g (isolated_simple x.graph a k.simple) a x.partners (x.partners a);
      }

  depart_leads : (a : ℕ) → a < x.graph.size → Leads 2 x (granted before x (depart a))
  depart_leads a below = record {
    simple = isolated_two_simple x.graph a (x.partners a) k.simple;
    follows = depart_follows x.graph k.simple x.ledger x.partners (granted before x (depart a)).partners a below (x.partners a)
        (λ b e. partner_below x.graph x.partners k.healthy.matching k.simple a b e);
    healthy = λ _. depart_healthy x.graph t a x.partners k.simple k.healthy;
    few = λ _. depart_two a x.partners (x.partners a);
  }

  granted_leads : (c : Call) → reason x c ≡ None → Leads (most c) x (granted before x c)
  granted_leads (link a b) none = link_leads a b none
  granted_leads (unlink a b) none = unlink_leads a b none
  granted_leads (withdraw a) none = withdraw_leads a none
  granted_leads (depart a) none = depart_leads a (load_none x.graph a _ none).0
  granted_leads (ask_partner a) none = nothing 0 x k
  granted_leads (ask_free_links a) none = nothing 0 x k
  granted_leads (ask_next_free a from) none = nothing 0 x k
  granted_leads ask_pairs none = nothing 0 x k

  call_leads : (c : Call) → Leads (allowed (reason x c) c) x (after before x c)
  call_leads c = by_reason (λ o y. Leads (allowed o c) x y) (reason x c) x (granted before x c) (λ _ _. nothing 0 x k) (granted_leads c)

  pub call_follows : (c : Call) → Follows x (after before x c)
  call_follows c = (call_leads c).follows

  pub call_kept : (c : Call) → Within before x c → KeepsSound x c (after before x c)
  call_kept c = leads_kept x c (after before x c) k (call_leads c)

pub refused_unchanged : (before : Ranking) (x : Position) (c : Call) (r : Reason) → reason x c ≡ Some r → after before x c ≡ x
refused_unchanged before x c r e = ap (λ o. unless o x (granted before x c)) e

-- What a board stands for, and how it answers its calls.
use Rattle.std.specs.Prelude.{◌≡◌, true, IfOk, Result}
use Rattle.graph.specs.Graph.{Graph}
use Rattle.links.specs.Books.{Ledger, Stands as BookStands}
use Rattle.links.specs.Refusals.{Answers, Kept}
use Rattle.links.specs.declared.refusal.Refused.{Refused}
use Rattle.rules.specs.Calls.{Position, Call, Answer, is_question, reason, answer, after, opened}
use Rattle.rules.specs.Health.{Sound}
use Rattle.rules.specs.Repair.{Ranking}
use Rattle.tables.specs.Views.{partners_of, Agrees}
use Rattle.board.specs.declared.Board.{Board}

-- the position of a board, from what its book stands for and the partners in its tables
abbrev pub position : {B R : Type 0} → (B → Graph) → (B → Ledger) → Board B R → Position
position graph ledger s =
    record { graph = graph s.book; ledger = ledger s.book; partners = partners_of s.tables }

module _ {B R : Type 0} (graph : B → Graph) (made : B → Type 0) (ledger : B → Ledger) where
  -- what opening on a made book gives and each call keeps: the book was made, the tables agree with
  -- it, and the position is sound
  pub record Stands (s : Board B R) : Type 0 where
    pub book_made : made s.book
    pub agrees : Agrees (graph s.book) s.tables
    pub sound : Sound (position graph ledger s)

  -- the board r was opened on a book, with a ranking
  pub record Opens (before : R → Ranking) (book : B) (ranking : R) (r : Board B R) : Type 0 where
    pub book_is : r.book ≡ book
    pub ranking_is : r.ranking ≡ ranking
    pub position_is : made book →
        position graph ledger r ≡ opened (before ranking) (graph book) (ledger book)
    pub stands : made book → Stands r

  module _ (order : Ranking) (s : Board B R) (c : Call) (r : Result (Answer c) Refused)
      (t : Board B R) where
    -- a call c on the board s is refused for the reason of the rules or granted, and the book of
    -- the board t after it is a made book that stands for their graph and their ledger
    pub record FollowsBook : Type 0 where
      pub decides : Answers (reason (position graph ledger s) c) r (λ _. Unit {0})
      pub book : let y = after order (position graph ledger s) c in
          BookStands graph made ledger t.book y.graph y.ledger

    -- granted, it answers what the rules do; its partners are theirs, and the board t stands
    pub record FollowsRules : Type 0 where
      pub value : IfOk r (λ v. v ≡ answer (position graph ledger s) c)
      pub partners : partners_of t.tables ≡ (after order (position graph ledger s) c).partners
      pub stands : Stands t

  -- how a board s answers r to a call c, and is t after it. Refused, and after a question, it is as
  -- it was. Links and spares follow the rules where the book was made, and partners where the board
  -- stands. `fixed` is what no call changes
  pub record Steps {F : Type 0} (fixed : B → F) (before : R → Ranking) (s : Board B R) (c : Call)
      (r : Result (Answer c) Refused) (t : Board B R) : Type 0 where
    pub kept : Kept r s t
    pub asked : is_question c ≡ true → t ≡ s
    pub ranking_is : t.ranking ≡ s.ranking
    pub fixed_is : fixed t.book ≡ fixed s.book
    pub links : made s.book → FollowsBook (before s.ranking) s c r t
    pub partners : Stands s → FollowsRules (before s.ranking) s c r t

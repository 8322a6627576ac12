-- Lines that are put at the end of the text, and the text of a fresh board.
use Rattle.std.proofs.Common.{◌≡◌, ℕ, ◌*◌, List, [], ◌++◌, length, take, drop, Some, sym, ap, ◌∙◌, ap₂, arith}
use Rattle.std.proofs.lemmas.List.{take_at}
use Rattle.std.proofs.lemmas.Bool.{cond-false, le-ltb}
use Rattle.std.proofs.lemmas.Option.{none-some}
use Rattle.graph.specs.Graph.{Graph, no_links}
use Rattle.graph.specs.Pairs.{has_partner}
use Rattle.graph.proofs.Counts.{count_le}
use Rattle.links.specs.Books.{Ledger, Stands as BookStands}
use Rattle.links.specs.Refusals.{Reason}
use Rattle.links.specs.Books.{fresh_ledger}
use Rattle.rules.specs.Boards.{by_number}
use Rattle.rules.specs.Calls.{Position, opened}
use Rattle.rules.specs.Repair.{Ranking}
use Rattle.tables.specs.Views.{partners_of}
use Rattle.board.specs.Boards.{position, Stands, Opens}
use Rattle.board.specs.declared.Board.{Board}
use Rattle.stream.specs.Pairs.{lines_of, listing}
use Rattle.stream.specs.Steps.{WritesLine}
use Rattle.stream.specs.declared.Stepped.{Stepped}
use Rattle.transcript.specs.Texts.{Plays}
use Rattle.transcript.specs.Transcript.{played, answered, start, transcript}

-- the line of a step stands at the start of the output
pub line_first : {line : List ℕ} {place : ℕ} {from : List ℕ} {r : Stepped} {out : List ℕ} → WritesLine line place from r out → take r.written out ≡ line
line_first {line} {from = from} {r = r} writes = ap (take r.written) writes.out_is ∙ take_at line (drop (length line) from) r.written (sym writes.written_is)

-- 256 loads have at most 128 pairs
pub pairs_fit : {B R : Type 0} {graph : B → Graph} {made : B → Type 0} {ledger : B → Ledger} (s : Board B R) (out : List ℕ) (e : Reason) → Stands graph made ledger s → length out ≡ 1024 →
    listing (position graph ledger s) out ≡ Some e → ⊥
pairs_fit {B} {R} {graph} {made} {ledger} s out e stood long =
    let few = stood.sound.simple.small in
    let matched = count_le (graph s.book).size (has_partner (partners_of s.tables)) in
    λ refused. none-some e (sym (cond-false _ _ _ (le-ltb (length out) (8 * _) (omega arith))) ∙ refused)

pub started : {B R : Type 0} {graph : B → Graph} {made : B → Type 0} {ledger : B → Ledger} {before : R → Ranking} {book : B} {ranking : R} {r : Board B R} →
    before ranking ≡ by_number → BookStands graph made ledger book (no_links 256) (fresh_ledger 256 255 2048) → Opens graph made ledger before book ranking r → position graph ledger r ≡ start
unfolding start
started {before = before} {ranking = ranking} order fresh opens =
    opens.position_is fresh.still_made ∙ ap₂ (opened (before ranking)) fresh.graph_is fresh.ledger_is ∙ ap (λ (o : Ranking). opened o (no_links 256) (fresh_ledger 256 255 2048)) order

pub transcribed : {B R : Type 0} {graph : B → Graph} {made : B → Type 0} {ledger : B → Ledger} {t : Board B R} (x : Position) (input from text all : List ℕ) → x ≡ start → from ≡ [] →
    Plays graph made ledger (played (length input) by_number x input 0) from t text → all ≡ text ++ lines_of (position graph ledger t) → all ≡ transcript input
unfolding transcript
transcribed x input from text all at empty plays is =
    is ∙ ap₂ (λ (l : List ℕ) (y : Position). l ++ lines_of y) (plays.text_is ∙ ap (λ (l : List ℕ). l ++ (played (length input) by_number x input 0).text) empty) plays.position_is ∙ ap (λ (y : Position). answered (played (length input) by_number y input 0)) at

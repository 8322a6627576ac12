-- What refusals are called, for people to read.
use Rattle.std.specs.Prelude.{ℕ, ◌-◌, List, [], ◌∷◌, ◌++◌, codes, decimal, slice_index_or}
use Rattle.links.specs.declared.refusal.Layer.{Layer}
use Rattle.links.specs.declared.refusal.Layer.TheVariants.{Stream, Board, Book}
use Rattle.links.specs.declared.refusal.Refused.{Refused}
use Rattle.links.specs.Refusals.{meaning}

abbrev pub layer_name : Layer → List ℕ
layer_name Stream = codes "stream"
layer_name Board = codes "board"
layer_name Book = codes "book"

-- what each refusal means, in the order of the numbers, from 1
abbrev pub texts : List (List ℕ)
texts =
    codes "the number of loads is not 1 to 256"
    ∷ codes "the limit is out of range"
    ∷ codes "the length is wrong"
    ∷ codes "there is no such load"
    ∷ codes "both are the same load"
    ∷ codes "they are linked already"
    ∷ codes "they are not linked"
    ∷ codes "the pair is barred"
    ∷ codes "a load has no spare left"
    ∷ codes "the book has no room left"
    ∷ codes "the load has no partner"
    ∷ codes "unknown command byte"
    ∷ codes "the stream ends inside a command"
    ∷ codes "the output is too short"
    ∷ codes "an entry is out of order or out of bounds"
    ∷ []

abbrev pub reason_text : ℕ → List ℕ
reason_text number = slice_index_or texts (number - 1) []

abbrev pub refused_text : Refused → List ℕ
refused_text r =
    codes "refused by the " ++ layer_name r.layer ++ codes " with "
    ++ decimal (meaning r.refusal).0 ++ codes ", " ++ reason_text (meaning r.refusal).0

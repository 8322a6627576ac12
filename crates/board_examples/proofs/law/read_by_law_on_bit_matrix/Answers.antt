use Rattle.board_examples.proofs.law.read_by_law_on_bit_matrix.Goals as goal

pub returns : goal.returns
returns c = c.read_by_law.ensures c.new.ensures.making.0

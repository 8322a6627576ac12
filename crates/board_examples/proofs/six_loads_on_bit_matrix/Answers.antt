use Rattle.board_examples.proofs.six_loads_on_bit_matrix.Goals as goal

pub returns : goal.returns
returns c = c.six_loads.ensures c.new.ensures.making.0

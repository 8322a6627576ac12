use Rattle.board_examples.proofs.six_loads_on_rows.Goals as goal

pub returns : goal.returns
returns c =
    let fresh = c.new.ensures.making.0 in
    c.six_loads.ensures (record { graph_is = fresh.graph; ledger_is = fresh.ledger; still_made = c.new.ensures.made })

use Rattle.std.proofs.Common.{◌≡◌, Some, None, Ok, rules, arith}
use Rattle.std.proofs.lemmas.List.{take_all}
use Rattle.text.proofs.Texts.{spelled_more, spelled_stands, read_short, ended}
use Rattle.text.proofs.conversion.decode.Goals as goal

pub loop-text-preserved : goal.loop-text-preserved
loop-text-preserved c =
    let was : c.read.result ≡ Ok (Some c.in-Some.decoded) = search rules in
    let spans = rw was at c.read.ensures.spanned in
    let value = rw was at c.read.ensures.value in
    let short = read_short c.args.stream.now c.loop-text.place value.0 in
    record {
      spelled =
          rw c.in_ok-push_full_line.ensures.line
          (spelled_more _ _ _ _ _ c.loop-text.invariant.spelled spans.ahead spans.within spans.written c.in_ok-push_full_line.ensures.reads_back);
      at_once = λ long. absurd (omega arith);
    }

pub returns : goal.returns
returns c =
    let was : c.read.result ≡ Ok None = search rules in
    let none = rw was at c.read.ensures.value in
    let over = ended c.args.stream.now c.loop-text.place none.1 in
    let spelled = rw (take_all c.loop-text.place c.args.stream.now over) at c.loop-text.invariant.spelled in
    (spelled, spelled_stands spelled)

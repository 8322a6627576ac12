use Rattle.std.proofs.Common.{Ok, Err, ap}
use Rattle.commands.specs.declared.Command.TheVariants.{Link, Unlink, Withdraw, Depart, Partner}
use Rattle.stream.proofs.Replies.{carries, error_is}
use Rattle.stream.proofs.play.Goals as goal

pub returns-in-Link : goal.returns-in-Link
returns-in-Link g c = carries (Link c.from.result c.from-in-Link.result) (cc) c.link.result c.link.ensures c.done.ensures

pub returns-in-Unlink : goal.returns-in-Unlink
returns-in-Unlink g c = carries (Unlink c.from-in-Unlink.result c.from-in-Unlink-2.result) (cc) c.unlink.result c.unlink.ensures c.done-in-Unlink.ensures

pub returns-in-Withdraw : goal.returns-in-Withdraw
returns-in-Withdraw g c = carries (Withdraw c.from-in-Withdraw.result) (cc) c.withdraw.result c.withdraw.ensures c.done-in-Withdraw.ensures

pub returns-in-Depart : goal.returns-in-Depart
returns-in-Depart g c = carries (Depart c.from-in-Depart.result) (cc) c.depart.result c.depart.ensures c.done-in-Depart.ensures

pub returns-in_ok-partner-in-Partner : goal.returns-in_ok-partner-in-Partner
returns-in_ok-partner-in-Partner g c =
    carries (Partner c.from-in-Partner.result) (cc) (Ok c.in_ok-partner-in-Partner.field-0) c.in_ok-partner-in-Partner.ensures.answers (ap Ok c.partner_reply.ensures)

pub returns-in_err-partner-in-Partner : goal.returns-in_err-partner-in-Partner
returns-in_err-partner-in-Partner g c =
    carries (Partner c.from-in-Partner.result) (cc) (Err c.in_err-partner-in-Partner.field-0.0) c.in_err-partner-in-Partner.ensures.answers (error_is c.from_residual.result c.in_err-partner-in-Partner.field-0.0 c.from_residual.ensures.1)

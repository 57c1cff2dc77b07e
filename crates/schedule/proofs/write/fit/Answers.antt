use Rattle.std.proofs.Common.{rules, ap, ◌∙◌, length, leb}
use Rattle.schedule.specs.Records.{encoded}
use Rattle.schedule.proofs.Fits.{fits}
use Rattle.schedule.proofs.write.fit.Goals as goal

pub returns : goal.returns
returns c =
    c.is_some.ensures ∙ fits _ _ (λ f room x v h called. search rules) c.iter.result _ _ _ _ c.try_fold.ensures.ran ∙ ap (λ rs. leb (length (encoded rs)) c.args.room) c.iter.ensures.rest

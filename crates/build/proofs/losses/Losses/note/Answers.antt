use Rattle.std.proofs.Common.{◌≡◌, [], ◌∷◌, ◌++◌, reverse, length, vec_items, ap, ◌∙◌, arith}
use Rattle.build.specs.Hands.{own_bytes}
use Rattle.build.specs.Lost.{losses_by}
use Rattle.build.specs.Models.{in_hand}
use Rattle.build.specs.declared.losses.Loss.{Loss as Mark}
use Rattle.build.proofs.Shown.{noted_more}
use Rattle.build.proofs.losses.Losses.note.Goals as goal

pub returns : goal.returns
returns c =
    let old = c.args.self.now in
    let bytes = c.add_bytes.ensures in
    let jobs = c.push_reserved.ensures in
    let more = own_bytes c.args.make (in_hand c.args.tokens.now) in
    let at : c.len-from.result ≡ length (vec_items old.bytes) = omega (arith, c.len-from.ensures, old.bytes.ok.0) in
    let mark : Mark = record { job = c.args.job; from = length (vec_items old.bytes) } in
    record {
      after =
          (λ i. losses_by (reverse ((jobs.items ∙ ap (λ n. vec_items old.jobs ++ record { job = c.args.job; from = n } ∷ []) at) i)) (bytes.after i))
          ∙ noted_more (vec_items old.jobs) (vec_items old.bytes) more c.args.job;
      memory = record { jobs = jobs.capacity; most = bytes.capacity; used = bytes.len };
    }

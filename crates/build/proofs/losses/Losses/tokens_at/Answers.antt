use Rattle.std.proofs.Common.{◌≡◌, ◌+◌, ◌-◌, ◌≤◌, ℕ, List, ◌∷◌, ◌++◌, [], length, min, take, drop, vec_items, sym, ap, ◌∙◌, subst, arith}
use Rattle.std.specs.Result.{IfOk}
use Rattle.std.proofs.lemmas.List.{drop-take, take_all, length-append}
use Rattle.build.proofs.Shown.{Left, left_found, left_on, left_all, left_none, next_back, none_left}
use Rattle.build.proofs.losses.Losses.tokens_at.Goals as goal

-- the part that was copied
copied : (bytes : List ℕ) (from end : ℕ) → from ≤ end → take (end - from) (drop from bytes) ≡ drop from (take end bytes)
copied bytes from end h = let up : from + (end - from) ≡ end = omega arith in sym (drop-take from (end - from) bytes) ∙ ap (λ n. drop from (take n bytes)) up

pub loop-loss-init : goal.loop-loss-init
loop-loss-init c =
    let s = c.args.self.now in
    let all : length (vec_items s.jobs) - 0 ≡ length (vec_items s.jobs) = omega arith in
    record {
      left = left_all c.args.n (vec_items s.jobs) (vec_items s.bytes) (length (vec_items s.jobs) - 0) c.len-end.result (take_all _ _ (omega arith)) (take_all _ _ (omega (arith, s.bytes.ok.0)));
      within = omega (arith, s.bytes.ok.0);
    }

pub returns-then-loss-n : goal.returns-then-loss-n
returns-then-loss-n c =
    let s = c.args.self.now in
    let x = c.in-Some.loss.now in
    let seen = c.loop-loss.yielded in
    let next = next_back _ (vec_items s.jobs) (cc) seen _ c.loop-loss.yielded_by c.next.result c.next.new.self c.in-Some.loss c.in-Some.is c.next.ensures.steps in
    let found = left_found c.args.n (vec_items s.jobs) (vec_items s.bytes) (length (vec_items s.jobs) - length seen) c.loop-loss.end x (omega (arith, next.0)) (omega arith) next.1 c.loop-loss.invariant.left c.if-loss-n.true in
    let part = ap (λ n. take (c.loop-loss.end - n) (drop n (vec_items s.bytes))) c.min-from.ensures ∙ copied (vec_items s.bytes) (min x.from c.loop-loss.end) c.loop-loss.end (omega arith) ∙ found in
    record { result = subst (λ l. IfOk c.from_slice.result (λ v. v.items ≡ l)) (ap (λ l. take (c.loop-loss.end - c.min-from.result) (drop c.min-from.result l)) c.deref-then-loss-n.ensures.value ∙ part) c.from_slice.ensures.items }

pub loop-loss-preserved : goal.loop-loss-preserved
loop-loss-preserved c =
    let s = c.args.self.now in
    let x = c.in-Some.loss.now in
    let seen = c.loop-loss.yielded in
    let next = next_back _ (vec_items s.jobs) (cc) seen _ c.loop-loss.yielded_by c.next.result c.next.new.self c.in-Some.loss c.in-Some.is c.next.ensures.steps in
    let on = left_on c.args.n (vec_items s.jobs) (vec_items s.bytes) (length (vec_items s.jobs) - length seen) c.loop-loss.end x (omega (arith, next.0)) (omega arith) next.1 c.loop-loss.invariant.left c.if-loss-n.false in
    let place : length (vec_items s.jobs) - length seen - 1 ≡ length (vec_items s.jobs) - length (seen ++ c.in-Some.loss ∷ []) = omega (arith, length-append seen (c.in-Some.loss ∷ [])) in
    let same = c.min-from.ensures in
    record {
      left = subst (λ k. Left c.args.n (vec_items s.jobs) (vec_items s.bytes) k c.min-from.result) place (rw same on);
      within = omega (arith, same, c.loop-loss.invariant.within);
    }

pub returns : goal.returns
returns c =
    let s = c.args.self.now in
    let done = none_left _ (vec_items s.jobs) (cc) c.loop-loss.yielded _ c.loop-loss.yielded_by c.next.result c.next.new.self c.in-None.is c.next.ensures.steps in
    record { result = c.new.ensures.items ∙ left_none c.args.n (vec_items s.jobs) (vec_items s.bytes) (length (vec_items s.jobs) - length c.loop-loss.yielded) c.loop-loss.end done c.loop-loss.invariant.left }

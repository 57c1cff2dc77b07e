use Rattle.std.proofs.Common.{◌+◌, ◌<◌, map, vec_items, vec_len, vec_capacity, get_or, length, sym, refl, ap, ◌∙◌, subst, arith}
use Rattle.std.proofs.lemmas.List.{length-map, get_or_default}
use Rattle.build.specs.Models.{held}
use Rattle.build.specs.declared.tokens.Token.{Token}
use Rattle.build.proofs.Handing.{Adding, adding_none, adding_one, adding_on, adding_all}
use Rattle.build.proofs.Shown.{stands}
use Rattle.build.proofs.tokens.Tokens.add_bytes.Goals as goal
use Rattle.build.proofs.tokens.Tokens.add_bytes.Goals.{then-token-make, else-token-make}

pub loop-token-init : goal.loop-token-init
loop-token-init c = (adding_none _ _ _, omega arith, refl)

pub push_reserved-requires : goal.push_reserved-requires
push_reserved-requires c = omega (arith, c.loop-token.invariant.1, c.loop-token.invariant.2, c.requires)

pub loop-token-preserved : goal.loop-token-preserved
loop-token-preserved c =
    let own = c.args.self.now.held in
    let xs = map held (vec_items own) in
    let inv = c.loop-token.invariant in
    let i = c.loop-token.token-index in
    let none : Token = record { by = 0; byte = 0 } in
    let items = c.deref-token-items in
    let x = get_or items.result.now i none in
    let inside : i < length (vec_items own) = omega (arith, own.ok.0) in
    let at = stands (vec_items own) i x inside (ap (λ l. get_or l i none) items.ensures.value ∙ get_or_default (vec_items own) i none x inside) in
    elim c.if-token-make.branch [
      | then-token-make w ↦
          let pushed = w.push_reserved.ensures in
          let long = ap vec_len w.bytes-is ∙ pushed.len in
          let wide = ap vec_capacity w.bytes-is ∙ pushed.capacity in
          (adding_one inv.0 (held x) at.within at.is w.if-token-make.true _ (ap vec_items w.bytes-is ∙ pushed.items), omega (arith, inv.1), wide ∙ inv.2)
      | else-token-make w ↦
          let same = sym w.bytes-is in
          let long = ap vec_len same in
          let wide = ap vec_capacity same in
          (subst (λ v. Adding c.args.make xs (vec_items c.args.bytes.now) (i + 1) (vec_items v)) same (adding_on inv.0 (held x) at.within at.is w.if-token-make.false), omega (arith, inv.1), sym wide ∙ inv.2)
    ]

pub returns : goal.returns
returns c =
    let own = c.args.self.now.held in
    let xs = map held (vec_items own) in
    record {
      after = adding_all _ xs _ c.loop-token.token-index _ c.loop-token.invariant.0 (omega (arith, own.ok.0, length-map (vec_items own) held));
      len = omega (arith, c.loop-token.invariant.1);
      capacity = c.loop-token.invariant.2;
    }

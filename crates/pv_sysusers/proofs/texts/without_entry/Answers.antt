use Rattle.std.proofs.Common.{◌≡◌, ℕ, ◌∷◌, ◌++◌, [], true, false, List, Bor, map, sym, ap, subst, ◌∙◌}
use Rattle.std.proofs.lemmas.List.{map-append}
use Rattle.pv_accounts.specs.Among.{is_among}
use Rattle.pv_accounts.specs.Entries.{is_gshadow}
use Rattle.pv_sysusers.specs.Texts.{is_known, without_entry}
use Rattle.pv_sysusers.proofs.MissingLaws.{known_more, missing_known, missing_new}
use Rattle.pv_sysusers.proofs.texts.without_entry.Goals.{then-not-contains+in_ok-add+in_ok-push, else-not-contains}
use Rattle.std.proofs.lemmas.Result.{IfOk-from_err}
use Rattle.pv_sysusers.proofs.texts.without_entry.Goals as goal

pub loop-need-preserved : goal.loop-need-preserved
loop-need-preserved c =
    let file : List ℕ = c.args.file.now in
    let names : List (Bor (List ℕ)) = c.loop-need.names.items in
    let inv = c.loop-need.invariant in
    let seen : c.contains.result ≡ is_known is_gshadow file (map (λ n. n.now) names) c.need-item.result.name =
    c.contains.ensures ∙ ap (is_among c.loop-need.known) c.as_slice-name.ensures ∙ inv.1 c.need-item.result.name in
    elim c.if-not-contains.branch [
      | then-not-contains+in_ok-add+in_ok-push w ↦
          let more : w.push.new.self.items ≡ names ++ c.as_slice-name.result ∷ [] = w.in_ok-push.ensures.items in
          let unknown : is_known is_gshadow file (map (λ n. n.now) names) c.need-item.result.name ≡ false = sym seen ∙ w.if-not-contains.true in
          let shown : map (λ n. n.now) w.push.new.self.items ≡ map (λ n. n.now) names ++ c.as_slice-name.result.now ∷ [] = ap (map (λ n. n.now)) more ∙ map-append (λ n. n.now) names (c.as_slice-name.result ∷ []) in
          rw (w.known-is, w.names-is) (
            missing_new is_gshadow file (without_entry is_gshadow file [] c.args.needs.now) names w.push.new.self.items c.args.needs.now c.loop-need.need-index c.need-item.result c.as_slice-name.result
                c.loop-need-test.true c.need-item.is c.as_slice-name.ensures unknown more inv.0,
            λ other. subst (λ (ns : List (List ℕ)). is_among w.add.new.self other ≡ is_known is_gshadow file ns other) (sym shown)
                (known_more is_gshadow file (map (λ n. n.now) names) c.as_slice-name.result.now other (is_among w.add.new.self other) (is_among c.loop-need.known other) (w.in_ok-add.ensures other) (inv.1 other)),
          )
      | else-not-contains w ↦
          let known : is_known is_gshadow file (map (λ n. n.now) names) c.need-item.result.name ≡ true = sym seen ∙ w.if-not-contains.false in
          rw (w.known-is, w.names-is) (
            missing_known is_gshadow file (without_entry is_gshadow file [] c.args.needs.now) (map (λ n. n.now) names) c.args.needs.now c.loop-need.need-index c.need-item.result c.loop-need-test.true c.need-item.is known inv.0,
            inv.1,
          )
    ]

pub returns-in_err-known : goal.returns-in_err-known
returns-in_err-known c = IfOk-from_err c.from_residual.result _ c.from_residual.ensures.0

pub returns-in_err-add : goal.returns-in_err-add
returns-in_err-add c = IfOk-from_err c.from_residual-in_err-add.result _ c.from_residual-in_err-add.ensures.0

pub returns-in_err-push : goal.returns-in_err-push
returns-in_err-push c = IfOk-from_err c.from_residual-in_err-push.result _ c.from_residual-in_err-push.ensures.0

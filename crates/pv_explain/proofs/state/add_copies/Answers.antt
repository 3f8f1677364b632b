use Rattle.std.proofs.Common.{◌∙◌, ◌++◌, ◌∷◌, [], List, take, sym, ap, append_assoc}
use Rattle.std.proofs.lemmas.List.{take_more}
use Rattle.pv_path.specs.Paths.{Path}
use Rattle.pv_explain.proofs.CopyLaws.{copies, copies_more, copies_stay}
use Rattle.pv_explain.proofs.state.add_copies.Goals as goal
use Rattle.pv_explain.proofs.state.add_copies.Goals.{then-is_prefix+in_ok-rebase+in_ok-push, else-is_prefix}

pub loop-other-preserved : goal.loop-other-preserved
loop-other-preserved c =
    let i = c.loop-other.other-index in
    let ps = c.args.present.now in
    let p = c.other-item.result in
    let made : (List Path → List Path) = copies c.args.source.now c.args.path.now in
    let more = take_more ps i p c.loop-other-test.true ∙ ap (λ (q : Path). take i ps ++ q ∷ []) (sym c.other-item.is) in
    elim c.if-is_prefix.branch [
      | then-is_prefix+in_ok-rebase+in_ok-push w ↦
          let moved = w.in_ok-rebase.field-0 in
          let next = ap made more ∙ copies_more c.args.source.now c.args.path.now (take i ps) p moved w.in_ok-rebase.ensures in
          rw w.paths-is
          (w.in_ok-push.ensures.items ∙ ap (λ (xs : List Path). xs ++ moved ∷ []) c.loop-other.invariant
          ∙ append_assoc c.args.paths.now.items (made (take i ps)) (moved ∷ [])
          ∙ ap (λ (xs : List Path). c.args.paths.now.items ++ xs) (sym next))
      | else-is_prefix w ↦
          let next = ap made more ∙ copies_stay c.args.source.now c.args.path.now (take i ps) p (sym c.is_prefix.ensures ∙ w.if-is_prefix.false) in
          rw w.paths-is (c.loop-other.invariant ∙ ap (λ (xs : List Path). c.args.paths.now.items ++ xs) (sym next))
    ]

use Rattle.std.proofs.Common.{refl, sym, ◌∙◌, arith}
use Rattle.pv_steps.proofs.ActingLaws.{Moves, acted_within, acted_passed}
use Rattle.pv_walk.specs.SettingMetadata.{IsKeptBy, with_owner_of, with_mode_of}
use Rattle.pv_walk.proofs.ChangingLaws.{can_after, owner_sets_metadata, mode_sets_metadata, acl_sets_metadata, two_changed, all_changed_on, kept_there, owner_kept, mode_kept, acl_left, refused_passed, mode_still, acl_still}
use Rattle.pv_walk.proofs.setting_metadata.give_access.Goals as goal

pub give_mode-requires : goal.give_mode-requires
give_mode-requires g c =
    let t = g.T.Tree.state c.args.tree.now in
    let u = g.T.Tree.state c.give_owner.new.tree in
    record {
      can = can_after c.args.path.now c.args.new.now (with_owner_of c.args.new.now) c.args.now t u (λ o. refl) c.requires.can c.in_ok-give_owner.ensures.ok;
      kept = mode_still c.args.path.now c.args.new.now c.args.now t c.requires.can.kind c.requires.can.metadata u c.in_ok-give_owner.ensures.ok c.args.kept.mode c.requires.mode;
    }

pub give_acl-requires : goal.give_acl-requires
give_acl-requires g c =
    let t = g.T.Tree.state c.args.tree.now in
    let u = g.T.Tree.state c.give_owner.new.tree in
    let v = g.T.Tree.state c.give_mode.new.tree in
    record {
      can = can_after c.args.path.now c.args.new.now (with_mode_of c.args.new.now) c.args.now u v (λ o. refl) (can_after c.args.path.now c.args.new.now (with_owner_of c.args.new.now) c.args.now t u (λ o. refl) c.requires.can c.in_ok-give_owner.ensures.ok) c.in_ok-give_mode.ensures.ok;
      kept = acl_still c.args.path.now c.args.new.now c.args.now t c.requires.can.kind c.requires.can.metadata u c.in_ok-give_owner.ensures.ok c.args.kept.extended v c.in_ok-give_mode.ensures.ok c.requires.extended;
    }

pub returns-in_err-give_owner-clause-acted : goal.returns-in_err-give_owner-clause-acted
returns-in_err-give_owner-clause-acted g c =
    let moves : Moves g.T.Tree = record { stays = g.met.T.Tree.reaches_self; goes_on = g.met.T.Tree.reaches_on; never_falls = g.met.T.Tree.never_falls } in
    acted_passed g.T.Tree c.give_owner.result c.from_residual.result c.in_err-give_owner.was c.from_residual.ensures.1
    (acted_within g.T.Tree 1 3 (omega arith) (owner_sets_metadata g.T.Tree moves c.args.path.now c.args.new.now c.args.now c.args.tree.now c.give_owner.new.tree c.give_owner.ensures.acted))

pub returns-in_err-give_mode-clause-acted : goal.returns-in_err-give_mode-clause-acted
returns-in_err-give_mode-clause-acted g c =
    let moves : Moves g.T.Tree = record { stays = g.met.T.Tree.reaches_self; goes_on = g.met.T.Tree.reaches_on; never_falls = g.met.T.Tree.never_falls } in
    acted_passed g.T.Tree c.give_mode.result c.from_residual-in_err-give_mode.result c.in_err-give_mode.was c.from_residual-in_err-give_mode.ensures.1
    (acted_within g.T.Tree 2 3 (omega arith)
    (mode_sets_metadata g.T.Tree moves c.args.path.now c.args.new.now c.args.now c.args.tree.now c.give_owner.new.tree c.give_mode.new.tree c.in_ok-give_owner.ensures.acted c.in_ok-give_owner.ensures.ok c.give_mode.ensures.acted))

pub returns-clause-acted : goal.returns-clause-acted
returns-clause-acted g c =
    let moves : Moves g.T.Tree = record { stays = g.met.T.Tree.reaches_self; goes_on = g.met.T.Tree.reaches_on; never_falls = g.met.T.Tree.never_falls } in
    acl_sets_metadata g.T.Tree moves c.args.path.now c.args.new.now c.args.now c.args.tree.now c.give_mode.new.tree c.give_acl.new.tree
    (mode_sets_metadata g.T.Tree moves c.args.path.now c.args.new.now c.args.now c.args.tree.now c.give_owner.new.tree c.give_mode.new.tree c.in_ok-give_owner.ensures.acted c.in_ok-give_owner.ensures.ok c.in_ok-give_mode.ensures.acted)
    (two_changed c.args.path.now c.args.new.now c.args.now (g.T.Tree.state c.args.tree.now) (g.T.Tree.state c.give_owner.new.tree) (g.T.Tree.state c.give_mode.new.tree) c.in_ok-give_owner.ensures.ok c.in_ok-give_mode.ensures.ok)
    c.give_acl.ensures.acted

pub returns-clause-ok : goal.returns-clause-ok
returns-clause-ok g c =
    all_changed_on c.args.path.now c.args.new.now c.args.now (g.T.Tree.state c.args.tree.now)
    c.give_acl.result c.requires.can.kind c.requires.can.metadata (g.T.Tree.state c.give_owner.new.tree) (g.T.Tree.state c.give_mode.new.tree) (g.T.Tree.state c.give_acl.new.tree)
    c.in_ok-give_owner.ensures.ok c.in_ok-give_mode.ensures.ok c.give_acl.ensures.ok

pub returns-in_err-give_mode-clause-idle : goal.returns-in_err-give_mode-clause-idle
returns-in_err-give_mode-clause-idle g c kept =
    let new = c.args.new.now in
    let owner : IsKeptBy (with_owner_of new) c.args.path.now (g.T.Tree.state c.args.tree.now) = λ o e. owner_kept c.requires.can.kind new c.requires.can.metadata o (kept o e) in
    let here = kept_there (with_owner_of new) c.args.path.now c.args.now (g.T.Tree.state c.args.tree.now) (g.T.Tree.state c.give_owner.new.tree) c.in_ok-give_owner.ensures.ok owner in
    let first = c.in_ok-give_owner.ensures.idle owner in
    let second = c.give_mode.ensures.idle (λ o e. mode_kept c.requires.can.kind new c.requires.can.metadata o (kept o (sym here ∙ e))) in
    let passed = refused_passed c.give_mode.result c.from_residual-in_err-give_mode.result c.in_err-give_mode.was c.from_residual-in_err-give_mode.ensures.1 in
    omega (arith, first, second, passed)

pub returns-clause-idle : goal.returns-clause-idle
returns-clause-idle g c kept =
    let new = c.args.new.now in
    let owner : IsKeptBy (with_owner_of new) c.args.path.now (g.T.Tree.state c.args.tree.now) = λ o e. owner_kept c.requires.can.kind new c.requires.can.metadata o (kept o e) in
    let here = kept_there (with_owner_of new) c.args.path.now c.args.now (g.T.Tree.state c.args.tree.now) (g.T.Tree.state c.give_owner.new.tree) c.in_ok-give_owner.ensures.ok owner in
    let mode : IsKeptBy (with_mode_of new) c.args.path.now (g.T.Tree.state c.give_owner.new.tree) = λ o e. mode_kept c.requires.can.kind new c.requires.can.metadata o (kept o (sym here ∙ e)) in
    let there = kept_there (with_mode_of new) c.args.path.now c.args.now (g.T.Tree.state c.give_owner.new.tree) (g.T.Tree.state c.give_mode.new.tree) c.in_ok-give_mode.ensures.ok mode in
    let first = c.in_ok-give_owner.ensures.idle owner in
    let second = c.in_ok-give_mode.ensures.idle mode in
    let third = c.give_acl.ensures.idle (λ o e. acl_left c.requires.can.kind new c.requires.can.metadata o (kept o (sym (there ∙ here) ∙ e))) in
    omega (arith, first, second, third)

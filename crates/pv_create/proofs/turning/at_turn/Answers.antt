use Rattle.std.proofs.Common.{◌≡◌, ◌++◌, List, ℕ, None, Ok, is_some, length, option_map, refl, sym, ap, subst, ◌∙◌, append-nil, arith, length-append}
use Rattle.pv_steps.specs.Courses.{carried_of}
use Rattle.pv_steps.specs.declared.carried.Carried.{Carried}
use Rattle.pv_steps.specs.declared.carried.Carried.TheVariants.{Whole}
use Rattle.pv_steps.proofs.CarryingLaws.{single_messages, single_failed, refused_passed}
use Rattle.pv_steps.proofs.CourseLaws.{part_none, single_gone}
use Rattle.pv_steps.specs.Trees.{places}
use Rattle.pv_steps.proofs.ActingLaws.{Moves, acted_ended}
use Rattle.pv_text.specs.GivenMessages.{MessagesPart}
use Rattle.pv_table.specs.Saying.{turn_messages}
use Rattle.pv_table.specs.Turns.{refused_at}
use Rattle.pv_create.specs.OnTheWay.{plain_course}
use Rattle.pv_create.specs.Actions.{makes}
use Rattle.pv_create.proofs.ToldLaws.{no_ready_work, none_asked, told_first}
use Rattle.pv_create.specs.Refusing.{refused_as}
use Rattle.pv_create.proofs.ActionLaws.{line_action, line_short, copied_short}
use Rattle.pv_create.proofs.RefusedLaws.{turn_none, turn_refused}
use Rattle.pv_create.proofs.TurnLaws.{turn_start, nothing_after, nothing_says, ready_acted, settled_acted, settled_after, settled_says}
use Rattle.pv_create.proofs.turning.at_turn.Goals as goal

-- ---- what the calls need

pub refusal-requires-clause-few : goal.refusal-requires-clause-few
refusal-requires-clause-few g c =
    line_short c.args.at.now.line.now c.args.at.now.action.now c.args.at.now.path.now (g.T.Tree.state c.args.tree.now) c.requires.at.whole c.requires.at.asked c.requires.at.turn

pub refusal-requires-clause-source : goal.refusal-requires-clause-source
refusal-requires-clause-source g c =
    copied_short c.args.at.now.action.now c.args.at.now.path.now
    (line_action c.args.at.now.line.now c.args.at.now.action.now c.args.at.now.path.now (g.T.Tree.state c.args.tree.now) c.requires.at.whole c.requires.at.asked c.requires.at.turn)

pub settle-requires-clause-action : goal.settle-requires-clause-action
settle-requires-clause-action g c =
    line_action c.args.at.now.line.now c.args.at.now.action.now c.args.at.now.path.now (g.T.Tree.state c.args.tree.now) c.requires.at.whole c.requires.at.asked c.requires.at.turn

-- ---- a refused line

pub returns-in_err-refused : goal.returns-in_err-refused
returns-in_err-refused g c =
    let moves : Moves g.T.Tree = record { stays = g.met.T.Tree.reaches_self; goes_on = g.met.T.Tree.reaches_on; never_falls = g.met.T.Tree.never_falls } in
    record {
      run =
          turn_none g.T.Tree moves c.args.at.now.now c.args.at.now.line.now c.args.at.now.path.now c.args.tree.now c.args.messages.now c.args.messages.now refl c.from_residual.result c.from_residual.ensures.1;
    }

pub returns-in_err-say_refusal : goal.returns-in_err-say_refusal
returns-in_err-say_refusal g c =
    let moves : Moves g.T.Tree = record { stays = g.met.T.Tree.reaches_self; goes_on = g.met.T.Tree.reaches_on; never_falls = g.met.T.Tree.never_falls } in
    record {
      run =
          turn_none g.T.Tree moves c.args.at.now.now c.args.at.now.line.now c.args.at.now.path.now c.args.tree.now c.args.messages.now c.say_refusal.new.messages c.in_err-say_refusal.ensures.err
          c.from_residual-in_err-say_refusal.result c.from_residual-in_err-say_refusal.ensures.1;
    }

pub returns-in-Some : goal.returns-in-Some
returns-in-Some g c =
    let moves : Moves g.T.Tree = record { stays = g.met.T.Tree.reaches_self; goes_on = g.met.T.Tree.reaches_on; never_falls = g.met.T.Tree.never_falls } in
    let refused = sym c.in_ok-refused.ensures ∙ ap (option_map refused_as) c.in-Some.is in
    record {
      run =
          turn_refused g.T.Tree moves c.args.at.now.now c.args.at.now.line.now c.args.at.now.path.now c.args.tree.now c.args.messages.now c.say_refusal.new.messages (refused_as c.in-Some.refused) refused c.in_ok-say_refusal.ensures.ok;
    }

-- ---- nothing to copy

pub returns-then-not-has_something : goal.returns-then-not-has_something
returns-then-not-has_something g c =
    let moves : Moves g.T.Tree = record { stays = g.met.T.Tree.reaches_self; goes_on = g.met.T.Tree.reaches_on; never_falls = g.met.T.Tree.never_falls } in
    let now = c.args.at.now.now in
    let line = c.args.at.now.line.now in
    let path = c.args.at.now.path.now in
    let action = c.args.at.now.action.now in
    let t = g.T.Tree.state c.args.tree.now in
    let free : refused_at line path (places t) ≡ None = sym c.in_ok-refused.ensures ∙ ap (option_map refused_as) c.in_default.is in
    let nothing = sym c.has_something.ensures.something ∙ c.if-not-has_something.true in
    record {
      run =
          told_first g.T.Tree now line path c.args.tree.now c.args.tree.now c.args.messages.now c.args.messages.now (Ok Whole)
          (single_messages g.T.Tree (plain_course now line) path now c.args.tree.now c.args.messages.now (λ moment refused x t done new_messages work. work) moves (turn_start now line path t) c.args.messages.now Whole
          (nothing_after now line path action c.requires.at.asked t free nothing)
          (sym (ap (λ (xs : List (List ℕ)). c.args.messages.now ++ xs) (nothing_says now line path action c.requires.at.asked t free nothing (c.has_something.ensures.tree c.if-not-has_something.true)) ∙ append-nil c.args.messages.now))
          (ap (λ r. carried_of (is_some r)) (sym free)))
          (λ none one. absurd (none_asked {A = Carried} (Ok Whole) (g.T.Tree.steps c.args.tree.now) refl one));
    }

-- ---- something to do

pub get_ready-requires : goal.get_ready-requires
get_ready-requires g c = record {
  at = c.requires.at;
  unrefused = sym c.in_ok-refused.ensures ∙ ap (option_map refused_as) c.in_default.is;
  something = sym c.has_something.ensures.something ∙ c.if-not-has_something.false;
}

pub returns-in_err-get_ready : goal.returns-in_err-get_ready
returns-in_err-get_ready g c =
    let now = c.args.at.now.now in
    let line = c.args.at.now.line.now in
    let path = c.args.at.now.path.now in
    let action = c.args.at.now.action.now in
    let t = g.T.Tree.state c.args.tree.now in
    let free : refused_at line path (places t) ≡ None = sym c.in_ok-refused.ensures ∙ ap (option_map refused_as) c.in_default.is in
    let something = sym c.has_something.ensures.something ∙ c.if-not-has_something.false in
    record {
      run =
          told_first g.T.Tree now line path c.args.tree.now c.get_ready.new.tree c.args.messages.now c.args.messages.now c.from_residual-in_err-get_ready.result
          (single_failed g.T.Tree (plain_course now line) path now c.args.tree.now c.args.messages.now (λ moment refused x t done new_messages work. work) c.get_ready.new.tree c.args.messages.now c.get_ready.result c.from_residual-in_err-get_ready.result c.in_err-get_ready.was c.from_residual-in_err-get_ready.ensures.1
          (part_none (turn_messages now line path t) c.args.messages.now)
          (ready_acted g.T.Tree now line path action c.requires.at.asked c.args.tree.now c.get_ready.new.tree free something c.get_ready.ensures.acted))
          (λ none one. absurd (let no = no_ready_work action path t (ap makes (sym c.requires.at.asked) ∙ none) in
          let same = refused_passed c.get_ready.result c.from_residual-in_err-get_ready.result c.in_err-get_ready.was c.from_residual-in_err-get_ready.ensures.1 in
          omega (arith, one, same, no, c.get_ready.ensures.acted.bound)));
    }

pub returns-in_err-settle : goal.returns-in_err-settle
returns-in_err-settle g c =
    let moves : Moves g.T.Tree = record { stays = g.met.T.Tree.reaches_self; goes_on = g.met.T.Tree.reaches_on; never_falls = g.met.T.Tree.never_falls } in
    let now = c.args.at.now.now in
    let line = c.args.at.now.line.now in
    let path = c.args.at.now.path.now in
    let action = c.args.at.now.action.now in
    let t = g.T.Tree.state c.args.tree.now in
    let u = g.T.Tree.state c.get_ready.new.tree in
    let free : refused_at line path (places t) ≡ None = sym c.in_ok-refused.ensures ∙ ap (option_map refused_as) c.in_default.is in
    let something = sym c.has_something.ensures.something ∙ c.if-not-has_something.false in
    let says = sym (settled_says now line path action c.requires.at.asked t free something u c.in_ok-get_ready.ensures.ok) in
    record {
      run =
          told_first g.T.Tree now line path c.args.tree.now c.settle.new.tree c.args.messages.now c.settle.new.messages c.from_residual-in_err-settle.result
          (single_failed g.T.Tree (plain_course now line) path now c.args.tree.now c.args.messages.now (λ moment refused x t done new_messages work. work) c.settle.new.tree c.settle.new.messages c.settle.result c.from_residual-in_err-settle.result c.in_err-settle.was c.from_residual-in_err-settle.ensures.1
          (subst (λ (v : List (List ℕ)). MessagesPart v c.args.messages.now c.settle.new.messages) says c.settle.ensures.part)
          (settled_acted g.T.Tree now line path action c.requires.at.asked c.args.tree.now c.get_ready.new.tree free something moves c.in_ok-get_ready.ensures.ok c.in_ok-get_ready.ensures.acted c.settle.ensures.settles.acted))
          (λ none one.
          let no = no_ready_work action path t (ap makes (sym c.requires.at.asked) ∙ none) in
          let same = refused_passed c.settle.result c.from_residual-in_err-settle.result c.in_err-settle.was c.from_residual-in_err-settle.ensures.1 in
          let count = ap length c.in_ok-get_ready.ensures.acted.ran.recorded in
          let both = length-append (g.T.Tree.steps c.args.tree.now) c.in_ok-get_ready.ensures.acted.ran.steps in
          c.settle.ensures.told (omega (arith, one, same, no, count, both, c.in_ok-get_ready.ensures.acted.bound)) ∙ ap (λ (v : List (List ℕ)). c.args.messages.now ++ v) says);
    }

pub returns : goal.returns
returns g c =
    let moves : Moves g.T.Tree = record { stays = g.met.T.Tree.reaches_self; goes_on = g.met.T.Tree.reaches_on; never_falls = g.met.T.Tree.never_falls } in
    let now = c.args.at.now.now in
    let line = c.args.at.now.line.now in
    let path = c.args.at.now.path.now in
    let action = c.args.at.now.action.now in
    let t = g.T.Tree.state c.args.tree.now in
    let u = g.T.Tree.state c.get_ready.new.tree in
    let free : refused_at line path (places t) ≡ None = sym c.in_ok-refused.ensures ∙ ap (option_map refused_as) c.in_default.is in
    let something = sym c.has_something.ensures.something ∙ c.if-not-has_something.false in
    let says = sym (settled_says now line path action c.requires.at.asked t free something u c.in_ok-get_ready.ensures.ok) in
    let part = subst (λ (v : List (List ℕ)). MessagesPart v c.args.messages.now c.settle.new.messages) says c.settle.ensures.part in
    let acted = acted_ended g.T.Tree (Ok Whole) refl (settled_acted g.T.Tree now line path action c.requires.at.asked c.args.tree.now c.get_ready.new.tree free something moves c.in_ok-get_ready.ensures.ok c.in_ok-get_ready.ensures.acted c.in_ok-settle.ensures.settles.acted) in
    let told = c.in_ok-settle.ensures.new_messages ∙ ap (λ (v : List (List ℕ)). c.args.messages.now ++ v) says in
    record {
      run = told_first g.T.Tree now line path c.args.tree.now c.settle.new.tree c.args.messages.now c.settle.new.messages (Ok Whole) (record {
        ok = c.in_ok-settle.ensures.settles.ok ∙ sym (settled_after now line path action c.requires.at.asked t free something u c.in_ok-get_ready.ensures.ok);
        new_messages = told;
        carried = ap (λ r. carried_of (is_some r)) (sym free);
        part = part;
        acted = acted;
        went = single_gone (plain_course now line) (λ moment refused x t done new_messages work. work) g.T.Tree path now c.args.tree.now c.settle.new.tree c.args.messages.now c.settle.new.messages part acted;
      }) (λ none one. told);
    }

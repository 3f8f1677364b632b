use Rattle.std.proofs.Common.{ℕ, List, ◌++◌, take, append_assoc, sym, ap, ◌∙◌}
use Rattle.std.specs.Prelude.{slice_get}
use Rattle.std.specs.Option.{option_to_list}
use Rattle.pv_text.proofs.MessagesLaws.{one_more}
use Rattle.pv_text.proofs.messages.say_all.Goals as goal

pub loop-i-preserved : goal.loop-i-preserved
loop-i-preserved c =
    c.in_ok-say_one.ensures.ok ∙ (λ j. c.loop-i.invariant j ++ option_to_list (slice_get c.args.new_messages.now c.loop-i.i))
    ∙ append_assoc c.args.messages.now (take c.loop-i.i c.args.new_messages.now) (option_to_list (slice_get c.args.new_messages.now c.loop-i.i))
    ∙ ap (λ (ms : List (List ℕ)). c.args.messages.now ++ ms) (sym (one_more c.args.new_messages.now c.loop-i.i))

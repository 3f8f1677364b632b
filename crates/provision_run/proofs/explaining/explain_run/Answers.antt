use Rattle.std.proofs.Common.{◌≡◌, ◌++◌, ◌∙◌, ℕ, List, ap, inl, inr, rules}
use Rattle.provision_run.specs.Explained.{IsExplanationOf, explained_messages}
use Rattle.provision_run.specs.Phased.{lines_messages}
use Rattle.provision_run.proofs.ExplainLaws.{explained}
use Rattle.pv_text.proofs.MessagesLaws.{messages_then, messages_whole}
use Rattle.provision_run.proofs.explaining.explain_run.Goals as goal

pub returns-in_err-read-clause-part : goal.returns-in_err-read-clause-part
returns-in_err-read-clause-part g c = inl c.read_run.ensures.part

pub returns-in_err-stated-clause-part : goal.returns-in_err-stated-clause-part
returns-in_err-stated-clause-part g c =
    inl (messages_whole (lines_messages c.args.options.now c.args.facts.now (g.T.Tree.state c.args.tree.now)) c.args.messages.now c.read_run.new.messages c.in_ok-read.ensures.new_messages)

pub returns-in_err-say_explained-clause-part : goal.returns-in_err-say_explained-clause-part
returns-in_err-say_explained-clause-part g c =
    inl (messages_whole (lines_messages c.args.options.now c.args.facts.now (g.T.Tree.state c.args.tree.now)) c.args.messages.now c.read_run.new.messages c.in_ok-read.ensures.new_messages)

pub returns-in_err-say_all-clause-part : goal.returns-in_err-say_all-clause-part
returns-in_err-say_all-clause-part g c =
    let t = g.T.Tree.state c.args.tree.now in
    let options = c.args.options.now in
    let facts = c.args.facts.now in
    let stated = c.in_ok-stated.stated in
    let new_messages = c.say_explained.new.messages in
    let text : new_messages ≡ explained_messages c.unwrap-path.result.now stated = c.in_ok-say_explained.ensures ∙ ap (λ (old : List (List ℕ)). old ++ explained_messages c.unwrap-path.result.now stated) c.new-new_messages.ensures in
    let is : IsExplanationOf options facts t new_messages =
    explained options facts t c.unwrap-path.result.now (search rules) c.in_ok-read.read.table c.in_ok-read.ensures.lines stated
    c.in_ok-stated.ensures.acts c.in_ok-stated.ensures.node c.in_ok-stated.ensures.leaves new_messages text in
    inr (new_messages, (is, messages_then (lines_messages options facts t) new_messages c.args.messages.now c.read_run.new.messages c.say_all.new.messages c.in_ok-read.ensures.new_messages c.say_all.ensures.part))

pub returns-clause-part : goal.returns-clause-part
returns-clause-part g c =
    let t = g.T.Tree.state c.args.tree.now in
    let options = c.args.options.now in
    let facts = c.args.facts.now in
    let stated = c.in_ok-stated.stated in
    let new_messages = c.say_explained.new.messages in
    let text : new_messages ≡ explained_messages c.unwrap-path.result.now stated = c.in_ok-say_explained.ensures ∙ ap (λ (old : List (List ℕ)). old ++ explained_messages c.unwrap-path.result.now stated) c.new-new_messages.ensures in
    let is : IsExplanationOf options facts t new_messages =
    explained options facts t c.unwrap-path.result.now (search rules) c.in_ok-read.read.table c.in_ok-read.ensures.lines stated
    c.in_ok-stated.ensures.acts c.in_ok-stated.ensures.node c.in_ok-stated.ensures.leaves new_messages text in
    inr (new_messages, (is, messages_then (lines_messages options facts t) new_messages c.args.messages.now c.read_run.new.messages c.say_all.new.messages c.in_ok-read.ensures.new_messages c.say_all.ensures.part))

pub returns-clause-new_messages : goal.returns-clause-new_messages
returns-clause-new_messages g c =
    let t = g.T.Tree.state c.args.tree.now in
    let options = c.args.options.now in
    let facts = c.args.facts.now in
    let stated = c.in_ok-stated.stated in
    let new_messages = c.say_explained.new.messages in
    let text : new_messages ≡ explained_messages c.unwrap-path.result.now stated = c.in_ok-say_explained.ensures ∙ ap (λ (old : List (List ℕ)). old ++ explained_messages c.unwrap-path.result.now stated) c.new-new_messages.ensures in
    let is : IsExplanationOf options facts t new_messages =
    explained options facts t c.unwrap-path.result.now (search rules) c.in_ok-read.read.table c.in_ok-read.ensures.lines stated
    c.in_ok-stated.ensures.acts c.in_ok-stated.ensures.node c.in_ok-stated.ensures.leaves new_messages text in
    (new_messages, (is, c.in_ok-say_all.ensures.ok ∙ ap (λ (old : List (List ℕ)). old ++ new_messages) c.in_ok-read.ensures.new_messages))

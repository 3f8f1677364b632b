use Rattle.std.proofs.Common.{◌≡◌, ◌||◌, ◌∷◌, [], Bool, List, ℕ, sym, ap, ◌∙◌}
use Rattle.std.specs.List.{list_any}
use Rattle.std.proofs.Math.Bool.{or-false}
use Rattle.pv_accounts.specs.Among.{is_among}
use Rattle.pv_accounts.specs.Files.{lines_of}
use Rattle.pv_accounts.specs.Kinds.{is_entry_named, test_of}
use Rattle.pv_accounts.proofs.Rereading.{named_any}
use Rattle.pv_accounts.proofs.entry_names.EntryNames.of.Goals as goal

pub returns : goal.returns
returns c = λ name.
    let rest : List ℕ = c.loop-line.rest.now in
    let named : List ℕ → Bool = is_entry_named (test_of c.args.kind) name in
    let among : Bool = is_among c.loop-line.names name in
    let last : lines_of rest ≡ rest ∷ [] = c.in_default.ensures.parts in
    c.in_ok-add_line-2.ensures name
    ∙ ap (λ b. b || among) (sym (or-false (named rest)))
    ∙ ap (λ (ls : List (List ℕ)). list_any named ls || among) (sym last)
    ∙ c.loop-line.invariant name ∙ sym (named_any (test_of c.args.kind) name (lines_of c.args.file.now))

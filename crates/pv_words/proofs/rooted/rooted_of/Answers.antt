use Rattle.std.proofs.Common.{◌≡◌, ◌≤◌, ◌<◌, ◌-◌, ◌∷◌, ◌++◌, [], List, ℕ, length, map, take, drop, get_or, string_bytes, arith, subst, sym, ap, ◌∙◌, String, Global}
use Rattle.std.specs.Prelude.{Option, None, Some, option_and_then, Result, Err}
use Rattle.std.specs.Option.{ok_or}
use Rattle.std.proofs.lemmas.Result.{err_from_is_err_and}
use Rattle.pv_words.specs.declared.words_fault.WordsFault.{WordsFault}
use Rattle.pv_words.specs.declared.words_fault.WordsFault.TheVariants.{Usage}
use Rattle.std.proofs.lemmas.List.{nil_from_length, take_rest}
use Rattle.pv_words.specs.Cut.{Cut}
use Rattle.pv_words.specs.Meaning.{options_of}
use Rattle.pv_words.specs.declared.rooted.Rooted.{Rooted}
use Rattle.pv_words.specs.Answered.{Answers}
use Rattle.pv_words.specs.Rooted.{cut_of, rooted_of, rooted_with}
use Rattle.pv_words.proofs.rooted.rooted_of.Goals as goal

-- the run that a cut asks for, given the argument before it
abbrev run_of : List ℕ → Option Cut → Option Rooted
run_of tool cut = option_and_then (λ c. rooted_with c.folder (options_of (tool ∷ c.others))) cut

-- the meaning, by the first argument and the cut of those after it
by_cut : (words : List (String Global)) (tool : String Global) (cut : Option Cut) → 1 ≤ length words → tool ≡ get_or words 0 tool
    → cut ≡ cut_of (map string_bytes (take (length words - 1) (drop 1 words))) → run_of (string_bytes tool) cut ≡ rooted_of (map string_bytes words)
by_cut [] tool cut some item is = absurd (omega (arith, some))
by_cut (word ∷ words) tool cut some item is =
    ap (λ (w : String Global). run_of (string_bytes w) cut) item
    ∙ ap (run_of (string_bytes word)) (is ∙ ap (λ (ws : List (String Global)). cut_of (map string_bytes ws)) (take_rest (word ∷ words) 1))

no_words : (words : List (String Global)) → length words < 1 → rooted_of (map string_bytes words) ≡ None
no_words words none = ap (λ (ws : List (String Global)). rooted_of (map string_bytes ws)) (nil_from_length words (omega (arith, none)))

pub returns-in-empty : goal.returns-in-empty
returns-in-empty c = no_words c.args.words.now c.in-empty.len_below

-- the run that the folder and the other arguments of a cut ask for
same_run : (tool folder : List ℕ) (others words : List (List ℕ)) (cut : Cut) (found : Option Cut) → found ≡ Some cut → cut ≡ record { folder = folder; others = others } → words ≡ tool ∷ others
    → rooted_with folder (options_of words) ≡ run_of tool found
same_run tool folder others words cut found is view same =
    ap (λ (ws : List (List ℕ)). rooted_with folder (options_of ws)) same ∙ sym (ap (λ (c : Cut). run_of tool (Some c)) view) ∙ sym (ap (run_of tool) is)

pub returns-in_ok-others-in-len1-up : goal.returns-in_ok-others-in-len1-up
returns-in_ok-others-in-len1-up c =
    let words = c.args.words.now in
    let cut = c.cut.inside in
    let others = map string_bytes cut.before.now ++ map string_bytes cut.after.now in
    let found : c.cut_of.result ≡ Some c.in_ok-cut-in-len1-up.cut = c.in_ok-cut-in-len1-up.ensures.ok_part in
    let view : c.in_ok-cut-in-len1-up.cut ≡ record { folder = cut.folder.now; others = others } = sym c.cut.view_is in
    let same : map string_bytes c.deref.result.now ≡ string_bytes c.tool-item.result ∷ others = ap (λ (ws : List (String Global)). map string_bytes ws) c.deref.ensures.value ∙ c.in_ok-others-in-len1-up.ensures in
    subst (Answers c.rooted_with.result)
    (same_run (string_bytes c.tool-item.result) cut.folder.now others (map string_bytes c.deref.result.now) c.in_ok-cut-in-len1-up.cut c.cut_of.result found view same
    ∙ by_cut words c.tool-item.result c.cut_of.result c.in-len1-up.len_at_least c.tool-item.is c.cut_of.ensures)
    c.rooted_with.ensures

-- without a cut there is no run
refused : (tool : List ℕ) (result : Result Rooted WordsFault) (found : Option Cut) (fault given : WordsFault) (meaning : Option Rooted) → Err fault ≡ ok_or found Usage → result ≡ Err given → given ≡ fault
    → run_of tool found ≡ meaning → Answers result meaning
refused tool result None fault given meaning made is same run = let usage : given ≡ Usage = cc in subst (λ (r : Result Rooted WordsFault). Answers r meaning) (sym (is ∙ ap Err usage)) (sym run)
refused tool result (Some cut) fault given meaning made is same run = cc

pub returns-in_err-cut-in-len1-up : goal.returns-in_err-cut-in-len1-up
returns-in_err-cut-in-len1-up c =
    let given = err_from_is_err_and c.from_residual.result c.from_residual.ensures.1 in
    refused (string_bytes c.tool-item.result) c.from_residual.result c.cut_of.result c.in_err-cut-in-len1-up.field-0.0 given.0 (rooted_of (map string_bytes c.args.words.now)) c.in_err-cut-in-len1-up.ensures.value
    given.1 given.2 (by_cut c.args.words.now c.tool-item.result c.cut_of.result c.in-len1-up.len_at_least c.tool-item.is c.cut_of.ensures)

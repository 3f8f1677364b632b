use Rattle.std.proofs.Common.{◌≡◌, ◌≢◌, ℕ, List, [], ◌∷◌, ◌++◌, ◌+◌, ◌<◌, ◌≤◌, length, take, get_or, append_assoc, refl, sym, ap, ◌∙◌}
use Rattle.std.specs.List.{flat_map}
use Rattle.std.proofs.lemmas.Bool.{iff_false}
use Rattle.std.proofs.lemmas.List.{take_more, take_all, flat_map_more}
use Rattle.std.proofs.lemmas.Result.{IfOk-from_err}
use Rattle.pv_path.specs.Printing.{printed, printed_path}
use Rattle.pv_path.proofs.print.print_path.Goals as goal
use Rattle.pv_path.proofs.print.print_path.Goals.{then-is_empty+in_ok-push-2, else-is_empty}

-- a name as it is printed below another
abbrev below : List ℕ → List ℕ
below name = 47 ∷ printed name

-- one more name of the path
extended : (names : List (List ℕ)) (i : ℕ) (name text pushed new : List ℕ) → i < length names → name ≡ get_or names i name
    → text ≡ flat_map below (take i names) → pushed ≡ text ++ 47 ∷ [] → new ≡ pushed ++ printed name → new ≡ flat_map below (take (i + 1) names)
extended names i name text pushed new lt item is slash ends =
    ends
    ∙ ap (λ (t : List ℕ). t ++ printed name) slash
    ∙ append_assoc text (47 ∷ []) (printed name)
    ∙ ap (λ (t : List ℕ). t ++ below name) is
    ∙ ap (λ (n : List ℕ). flat_map below (take i names) ++ below n) item
    ∙ flat_map_more below [] (take i names) (get_or names i name)
    ∙ ap (flat_map below) (sym (take_more names i name lt))

-- after the last name, the text has all of them
whole : (path names : List (List ℕ)) (text : List ℕ) (i : ℕ) → names ≡ path → length names ≤ i → text ≡ flat_map below (take i names) → text ≡ flat_map below path
whole path names text i same end is = is ∙ ap (flat_map below) (take_all i names end ∙ same)

not_root : (path : List (List ℕ)) (text : List ℕ) → path ≢ [] → text ≡ flat_map below path → text ≡ printed_path path
not_root [] text some is = absurd (some refl)
not_root (name ∷ path) text some is = is

of_root : (path : List (List ℕ)) (text new : List ℕ) → path ≡ [] → text ≡ flat_map below path → new ≡ text ++ 47 ∷ [] → new ≡ printed_path path
of_root path text new root is slash = slash ∙ ap (λ (t : List ℕ). t ++ 47 ∷ []) (is ∙ ap (flat_map below) root) ∙ sym (ap printed_path root)

pub loop-name-init : goal.loop-name-init
loop-name-init c = c.new-text.ensures.items

pub loop-name-preserved : goal.loop-name-preserved
loop-name-preserved c =
    extended c.names-name-items.result.now c.loop-name.name-index c.name-item.result c.loop-name.text.items c.push.new.self.items c.add_printed.new.text.items c.loop-name-test.true
    c.name-item.is c.loop-name.invariant c.in_ok-push.ensures.items (c.in_ok-add_printed.ensures ∙ ap (λ (n : List ℕ). c.push.new.self.items ++ printed n) c.bytes.ensures.value)

pub returns : goal.returns
returns c =
    let path = c.args.path.now in
    let all = whole path c.names-name-items.result.now c.loop-name.text.items c.loop-name.name-index c.names-name-items.ensures.value c.loop-name-test.false c.loop-name.invariant in
    elim c.if-is_empty.branch [
      | then-is_empty+in_ok-push-2 w ↦
          ap (λ v. v.items) w.text-is ∙ of_root path c.loop-name.text.items w.push-then-is_empty.new.self.items (c.is_empty.ensures.0 w.if-is_empty.true) all w.in_ok-push-2.ensures.items
      | else-is_empty w ↦ ap (λ v. v.items) w.text-is ∙ not_root path c.loop-name.text.items (iff_false c.is_empty.ensures w.if-is_empty.false) all
    ]

pub returns-in_err-push : goal.returns-in_err-push
returns-in_err-push c = IfOk-from_err c.from_residual.result _ c.from_residual.ensures.0

pub returns-in_err-add_printed : goal.returns-in_err-add_printed
returns-in_err-add_printed c = IfOk-from_err c.from_residual-in_err-add_printed.result _ c.from_residual-in_err-add_printed.ensures.0

pub returns-in_err-push-2 : goal.returns-in_err-push-2
returns-in_err-push-2 c = IfOk-from_err c.from_residual-in_err-push-2.result _ c.from_residual-in_err-push-2.ensures.0

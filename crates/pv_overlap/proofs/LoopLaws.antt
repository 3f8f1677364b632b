-- One step more of loops over lines and over what is listed.
use Rattle.std.proofs.Common.{◌≡◌, ℕ, ◌+◌, ◌<◌, false, List, [], ◌∷◌, ◌++◌, length, map, take, get_or, All, Option, Some, None, unwrap_or, slice_get, refl, sym, ap, ◌∙◌, subst, append_assoc}
use Rattle.std.specs.List.{AllByRecursion, cons_option}
use Rattle.std.specs.Option.{option_map, option_map_or, option_to_list}
use Rattle.std.proofs.lemmas.List.{map-append, take-map, take_more}
use Rattle.std.proofs.lemmas.List.Elements.{All-from_get_or, All-from_recursion, filter_map-append}
use Rattle.std.proofs.lemmas.Option.{get_or_from_slice_get, slice_get-map, slice_get_within}
use Rattle.pv_path.specs.Paths.{Path, has_staging}
use Rattle.pv_text.specs.GivenMessages.{MessagesPart}
use Rattle.pv_lines.specs.declared.line.Line.{Line}
use Rattle.pv_lines.specs.Lines.{IsLine}
use Rattle.pv_table.specs.ActionTable.{action_of}
use Rattle.pv_table.specs.Turns.{copied}
use Rattle.pv_overlap.specs.GivenMessages.{line_text, standing_text}
use Rattle.pv_overlap.specs.Subjects.{sources_of}
use Rattle.pv_overlap.proofs.CopyLaws.{source_unstaged}
use Rattle.pv_overlap.proofs.MarkLaws.{source_of}

map_more : {X Y : Type 0} (f : X → Y) (xs : List X) (i : ℕ) (d : X) → i < length xs → map f (take (i + 1) xs) ≡ map f (take i xs) ++ f (get_or xs i d) ∷ []
map_more f xs i d l = ap (map f) (take_more xs i d l) ∙ map-append f (take i xs) (get_or xs i d ∷ [])

pub messages_more : {X : Type 0} (f : X → List ℕ) (xs : List X) (i : ℕ) (d : X) (start old new : List (List ℕ)) (text : List ℕ) → i < length xs → old ≡ start ++ map f (take i xs) → new ≡ old ++ text ∷ [] → text ≡ f (get_or xs i d) → new ≡ start ++ map f (take (i + 1) xs)
messages_more f xs i d start old new text l before added is =
    added ∙ ap (λ (t : List ℕ). old ++ t ∷ []) is ∙ ap (λ (ms : List (List ℕ)). ms ++ f (get_or xs i d) ∷ []) before
    ∙ append_assoc start (map f (take i xs)) (f (get_or xs i d) ∷ []) ∙ ap (λ (ms : List (List ℕ)). start ++ ms) (sym (map_more f xs i d l))

-- what a loop has said of the first of a list is a part of what is to be said of all
pub messages_upto : {X : Type 0} (f : X → List ℕ) (xs : List X) (i : ℕ) (start new : List (List ℕ)) → new ≡ start ++ map f (take i xs) → MessagesPart (map f xs) start new
messages_upto f xs i start new e = (i, e ∙ ap (λ (ms : List (List ℕ)). start ++ ms) (sym (take-map f i xs)))

pub mapped_more : {X Y : Type 0} (f : X → Y) (xs : List X) (i : ℕ) (x : X) (y : Y) (old new : List Y) → i < length xs → x ≡ get_or xs i x → old ≡ map f (take i xs) → y ≡ f x → new ≡ old ++ y ∷ [] → new ≡ map f (take (i + 1) xs)
mapped_more {X} {Y} f xs i x y old new l at before is added =
    added ∙ ap (λ (z : Y). old ++ z ∷ []) (is ∙ ap f at) ∙ ap (λ (ys : List Y). ys ++ f (get_or xs i x) ∷ []) before ∙ sym (map_more f xs i x l)

one_option : (o : Option Path) → cons_option o [] ≡ option_to_list o
one_option None = refl
one_option (Some path) = refl

pub sources_more : (lines : List Line) (i : ℕ) (line : Line) (source : Option Path) (old new : List Path) → i < length lines → line ≡ get_or lines i line → old ≡ sources_of (take i lines) → source ≡ copied (action_of line) → new ≡ old ++ option_to_list source → new ≡ sources_of (take (i + 1) lines)
sources_more lines i line source old new l at before is added =
    added ∙ ap (λ (o : Option Path). old ++ option_to_list o) (is ∙ ap (λ (x : Line). copied (action_of x)) at) ∙ ap (λ (ps : List Path). ps ++ option_to_list (copied (action_of (get_or lines i line)))) before
    ∙ ap (λ (ps : List Path). sources_of (take i lines) ++ ps) (sym (one_option (copied (action_of (get_or lines i line)))))
    ∙ sym (ap sources_of (take_more lines i line l) ∙ filter_map-append (λ (x : Line). copied (action_of x)) (take i lines) (get_or lines i line ∷ []))

pub sources_clear : (lines : List Line) → AllByRecursion IsLine lines → (paths : List Path) → paths ≡ sources_of lines → All (λ path. has_staging path ≡ false) paths
sources_clear lines are paths same = subst (All (λ path. has_staging path ≡ false)) (sym same) (All-from_get_or (λ path. has_staging path ≡ false) (sources_of lines) [] each)
  where
    each : (k : ℕ) → k < length (sources_of lines) → has_staging (get_or (sources_of lines) k []) ≡ false
    each k l =
        let found = source_of lines k l in
        source_unstaged found.1 (subst IsLine (get_or_from_slice_get lines found.0 found.1 found.1 found.2) (All-from_recursion IsLine lines are found.0 found.1 (slice_get_within lines found.0 found.1 found.2))) (get_or (sources_of lines) k []) found.3

-- where a line stands, looked up among the texts of all
pub text_there : (lines : List Line) (i : ℕ) → unwrap_or (slice_get (map standing_text lines) i) [] ≡ line_text lines i
text_there lines i = ap (λ (o : Option (List ℕ)). unwrap_or o []) (slice_get-map standing_text lines i) ∙ by (slice_get lines i)
  where
    by : (o : Option Line) → unwrap_or (option_map standing_text o) [] ≡ option_map_or standing_text o []
    by None = refl
    by (Some line) = refl

-- The lines that count, line after line.
use Rattle.std.proofs.Common.{◌≡◌, ℕ, ◌+◌, ◌<◌, Bool, true, false, List, [], ◌∷◌, ◌++◌, take, get_or, length, Bor, Option, Some, None, refl, sym, ap, ◌∙◌, cond, if◌then◌else◌}
use Rattle.std.specs.List.{flat_map}
use Rattle.std.specs.Option.{option_or}
use Rattle.std.specs.Str.{bytes_eq}
use Rattle.std.proofs.lemmas.Grind.{flat_map-append}
use Rattle.std.proofs.lemmas.List.{append-nil, flat_map_more, map-append, take_more}
use Rattle.std.proofs.lemmas.Slice.Eq.{bytes_eq-Decides}
use Rattle.pv_requests.specs.declared.request.Request.{Request}
use Rattle.pv_sysusers.specs.Lines.{Line, first_user, is_user, user_of}
use Rattle.pv_sysusers.specs.Shown.{shown, shown_line}
use Rattle.pv_sysusers.specs.declared.path_ids.PathId.{PathId}
use Rattle.pv_path.proofs.Tests.{option_or-none}

pub shown_more : (xs : List (Bor Request × Option PathId)) (line : Bor Request × Option PathId) → shown (xs ++ line ∷ []) ≡ shown xs ++ shown_line line ∷ []
shown_more xs line = map-append shown_line xs (line ∷ [])

-- what items give, behind what was there, with one item more
pub items_more : {X A : Type 0} (f : X → List A) (before : List A) (xs : List X) (i : ℕ) (x : X) → i < length xs → x ≡ get_or xs i x → (before ++ flat_map f (take i xs)) ++ f x ≡ before ++ flat_map f (take (i + 1) xs)
items_more {X = X} f before xs i x below is =
    flat_map_more f before (take i xs) x ∙ ap (λ (ys : List X). before ++ flat_map f ys) (ap (λ (y : X). take i xs ++ y ∷ []) is ∙ sym (take_more xs i x below))

-- what lines give, with one line more
pub lines_more : {A : Type 0} (f : Line → List A) (xs items : List (Bor Request × Option PathId)) (i : ℕ) (x : Bor Request × Option PathId) → items ≡ xs → i < length items → x ≡ get_or items i x → flat_map f (shown (take i xs)) ++ f (shown_line x) ≡ flat_map f (shown (take (i + 1) xs))
lines_more {A = A} f ys xs i d same below is =
    ap (λ (x : Bor Request × Option PathId). flat_map f (shown (take i ys)) ++ f (shown_line x)) is ∙ rw (← same) (sym (ap (λ (ys : List (Bor Request × Option PathId)). flat_map f (shown ys)) (take_more xs i d below)
    ∙ ap (flat_map f) (map-append shown_line (take i xs) (get_or xs i d ∷ []))
    ∙ flat_map-append f (shown (take i xs)) (shown_line (get_or xs i d) ∷ []) ∙ ap (λ (ys : List A). flat_map f (shown (take i xs)) ++ ys) (append-nil (f (shown_line (get_or xs i d))))))

-- one line more
user_end : (lines : List Line) (line : Line) (name : List ℕ) → first_user (lines ++ line ∷ []) name ≡ option_or (first_user lines name) (if is_user name line.0 then Some line.0 else None)
user_end [] line name = refl
user_end (l ∷ lines) line name = by_test (is_user name l.0) (user_end lines line name)
  where
    by_test : (b : Bool) → first_user (lines ++ line ∷ []) name ≡ option_or (first_user lines name) (if is_user name line.0 then Some line.0 else None)
        → cond b (Some l.0) (first_user (lines ++ line ∷ []) name) ≡ option_or (cond b (Some l.0) (first_user lines name)) (if is_user name line.0 then Some line.0 else None)
    by_test true rest = refl
    by_test false rest = rest

-- a line that is no u line
pub index_same : (lines : List Line) (line : Line) (name : List ℕ) → user_of line.0 ≡ None → first_user lines name ≡ first_user (lines ++ line ∷ []) name
index_same lines line name none = sym (option_or-none (first_user lines name)) ∙ sym (user_end lines line name ∙ rw none refl)

-- a u line of a user that has none
pub index_more : (lines : List Line) (line : Line) (user name : List ℕ) → user_of line.0 ≡ Some user → first_user lines user ≡ None
    → cond (bytes_eq user name) (Some line.0) (first_user lines name) ≡ first_user (lines ++ line ∷ []) name
index_more lines line user name is none = by_test (bytes_eq user name) refl ∙ sym (user_end lines line name)
  where
    by_test : (b : Bool) → bytes_eq user name ≡ b → cond b (Some line.0) (first_user lines name) ≡ option_or (first_user lines name) (if is_user name line.0 then Some line.0 else None)
    by_test true e =
        let same : user ≡ name = (bytes_eq-Decides user name).0 e in
        let gone : first_user lines name ≡ None = ap (first_user lines) (sym same) ∙ none in
        rw (is, e, gone) refl
    by_test false e = rw (is, e) (sym (option_or-none (first_user lines name)))

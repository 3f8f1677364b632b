-- The first entry that counts, has an ID and another name, found line by line.
use Rattle.std.proofs.Common.{◌≡◌, ℕ, ◌+◌, zero, suc, Bool, true, false, not, ◌&&◌, ◌||◌, ◌==◌, List, [], ◌∷◌, ◌++◌, take, drop, filter, find, Option, Some, None, option_and_then, refl, sym, ap, ◌∙◌, arith, cond, add-one, append-nil, if◌then◌else◌}
use Rattle.std.specs.List.{list_any, cons_option, position_or_len}
use Rattle.std.specs.Option.{option_map, option_or, option_map_or}
use Rattle.std.specs.Str.{bytes_eq}
use Rattle.std.proofs.lemmas.Bool.Decides.{nat_tests}
use Rattle.std.proofs.lemmas.List.Elements.{filter_map-append}
use Rattle.std.proofs.lemmas.List.Folds.{list_any-append}
use Rattle.std.proofs.lemmas.Slice.Eq.{bytes_eq-Decides}
use Rattle.pv_accounts.specs.Entries.{entry_of}
use Rattle.pv_accounts.specs.Files.{lines_of, entries_of, name_of, has_name, counting, holds_beside, holder_of}
use Rattle.pv_accounts.specs.Kinds.{is_entry_named, only_if, is_first_at, chosen_at}
use Rattle.pv_path.proofs.Tests.{same_tests, option_or-none}

-- an entry as a list of its fields
abbrev pub Fields : Type 0
Fields = List (List ℕ)

next_place : (place : ℕ) (lines : List (List ℕ)) (l : List ℕ) (ls : List (List ℕ)) → drop place lines ≡ l ∷ ls → (take (suc place) lines ≡ take place lines ++ l ∷ []) × (drop (suc place) lines ≡ ls)
next_place zero [] l ls e = cc
next_place zero (x ∷ xs) l ls e =
    let head : x ≡ l = cc in
    let tail : xs ≡ ls = cc in
    (ap (λ (y : List ℕ). y ∷ []) head, tail)
next_place (suc n) [] l ls e = cc
next_place (suc n) (x ∷ xs) l ls e =
    let r = next_place n xs l ls e in
    (ap (λ (ys : List (List ℕ)). x ∷ ys) r.0, r.1)

next_line : (place : ℕ) (lines : List (List ℕ)) (l : List ℕ) (ls : List (List ℕ)) → drop place lines ≡ l ∷ ls → (take (place + 1) lines ≡ take place lines ++ l ∷ []) × (drop (place + 1) lines ≡ ls)
next_line place lines l ls e = rw add-one (next_place place lines l ls e)

next_is : (p n : ℕ) → (1 + p == suc n) ≡ (p == n)
next_is p n = grind (arith, nat_tests)

none_is_next : (n : ℕ) → (0 == suc n) ≡ false
none_is_next n = grind (arith, nat_tests)

-- a line with an entry is the first with its name exactly if none before it has that name
place_is : (t : List ℕ → Bool) (place : ℕ) (lines : List (List ℕ)) (l : List ℕ) (ls : List (List ℕ)) → drop place lines ≡ l ∷ ls → t l ≡ true → (position_or_len t lines == place) ≡ not (list_any t (take place lines))
place_is t zero [] l ls e h = cc
place_is t zero (x ∷ xs) l ls e h =
    let head : x ≡ l = cc in
    let here : t x ≡ true = rw head h in
    rw here refl
place_is t (suc n) [] l ls e h = cc
place_is t (suc n) (x ∷ xs) l ls e h = by_test (place_is t n xs l ls e h) (t x)
  where
    by_test : (position_or_len t xs == n) ≡ not (list_any t (take n xs)) → (b : Bool) → (cond (not b) (1 + position_or_len t xs) 0 == suc n) ≡ not (b || list_any t (take n xs))
    by_test rest true = none_is_next n
    by_test rest false = next_is (position_or_len t xs) n ∙ rest

pub same_names : (a b : List ℕ) → bytes_eq a b ≡ bytes_eq b a
same_names a b =
    same_tests (bytes_eq a b) (bytes_eq b a) (λ h. (bytes_eq-Decides b a).1 (sym ((bytes_eq-Decides a b).0 h)))
    (λ h. (bytes_eq-Decides a b).1 (sym ((bytes_eq-Decides b a).0 h)))

-- the names of entries, looked for in the lines
names_in : (test : Fields → Bool) (e : Fields) (xs : List (List ℕ)) → list_any (is_entry_named test (name_of e)) xs ≡ list_any (λ other. has_name (name_of other) e) (entries_of test xs)
names_in test e [] = refl
names_in test e (x ∷ xs) = by_line (entry_of test x) (names_in test e xs)
  where
    by_line : (o : Option Fields) → list_any (is_entry_named test (name_of e)) xs ≡ list_any (λ other. has_name (name_of other) e) (entries_of test xs)
        → (option_map_or (has_name (name_of e)) o false || list_any (is_entry_named test (name_of e)) xs) ≡ list_any (λ other. has_name (name_of other) e) (cons_option o (entries_of test xs))
    by_line None rest = rest
    by_line (Some f) rest = rw (same_names (name_of f) (name_of e), rest) refl

filter_twice : (p q : Fields → Bool) (xs : List Fields) → filter p (filter q xs) ≡ filter (λ x. p x && q x) xs
filter_twice p q [] = refl
filter_twice p q (x ∷ xs) = by_tests (filter_twice p q xs) (q x) (p x) refl refl
  where
    by_tests : filter p (filter q xs) ≡ filter (λ x. p x && q x) xs → (a b : Bool) → q x ≡ a → p x ≡ b → filter p (filter q (x ∷ xs)) ≡ filter (λ x. p x && q x) (x ∷ xs)
    by_tests rest true true ea eb = rw (ea, eb) (ap (λ (ys : List Fields). x ∷ ys) rest)
    by_tests rest true false ea eb = rw (ea, eb) rest
    by_tests rest false true ea eb = rw (ea, eb) rest
    by_tests rest false false ea eb = rw (ea, eb) rest

filter_true : (xs : List Fields) → filter (λ x. true) xs ≡ xs
filter_true [] = refl
filter_true (x ∷ xs) = ap (λ (ys : List Fields). x ∷ ys) (filter_true xs)

-- the first entry of a filter that has a property
pick : (h p : Fields → Bool) (f : Fields) (ys zs : List Fields) (first : Bool) → first ≡ p f → filter p ys ≡ zs → find h (filter p (f ∷ ys)) ≡ option_or (if h f && first then Some f else None) (find h zs)
pick h p f ys zs first e rest = rw (e, ← rest) (by_tests (h f) (p f) refl refl)
  where
    by_tests : (a b : Bool) → h f ≡ a → p f ≡ b → find h (filter p (f ∷ ys)) ≡ option_or (if h f && p f then Some f else None) (find h (filter p ys))
    by_tests true true ea eb = rw (eb, ea) refl
    by_tests true false ea eb = rw (eb, ea) refl
    by_tests false true ea eb = rw (eb, ea) refl
    by_tests false false ea eb = rw (eb, ea) refl

-- whether no entry of a list has the name of another
abbrev pub is_new : List Fields → Fields → Bool
is_new earlier x = not (list_any (λ e. has_name (name_of e) x) earlier)

new_after : (earlier : List Fields) (f x : Fields) → (is_new earlier x && not (has_name (name_of f) x)) ≡ is_new (earlier ++ f ∷ []) x
new_after earlier f x =
    rw list_any-append (by_tests (list_any (λ e. has_name (name_of e) x) earlier) (has_name (name_of f) x))
  where
    by_tests : (a b : Bool) → (not a && not b) ≡ not (a || (b || false))
    by_tests true b = refl
    by_tests false true = refl
    by_tests false false = refl

-- what is left to find from a place on
abbrev pub left_at : (Fields → Bool) → List (List ℕ) → ℕ → ℕ → List ℕ → Option Fields
left_at test lines place id but = find (holds_beside id but) (filter (is_new (entries_of test (take place lines))) (counting (entries_of test (drop place lines))))

left_step : (test : Fields → Bool) (lines : List (List ℕ)) (place id : ℕ) (but l : List ℕ) (ls : List (List ℕ)) → drop place lines ≡ l ∷ ls
    → left_at test lines place id but ≡ option_or (chosen_at test lines place id but l) (left_at test lines (place + 1) id but)
left_step test lines place id but l ls e =
    let n = next_line place lines l ls e in
    rw (e, n.0, n.1, filter_map-append (entry_of test) (take place lines) (l ∷ [])) (by_entry (entry_of test l) refl)
  where
    by_entry : (o : Option Fields) → entry_of test l ≡ o
        → find (holds_beside id but) (filter (is_new (entries_of test (take place lines))) (counting (cons_option o (entries_of test ls))))
        ≡ option_or (option_and_then (only_if (λ entry. holds_beside id but entry && is_first_at test lines place entry)) o)
        (find (holds_beside id but) (filter (is_new (entries_of test (take place lines) ++ cons_option o [])) (counting (entries_of test ls))))
    by_entry None eo = rw append-nil refl
    by_entry (Some f) eo =
        let here : is_entry_named test (name_of f) l ≡ true = rw eo ((bytes_eq-Decides (name_of f) (name_of f)).1 refl) in
        let first : is_first_at test lines place f ≡ is_new (entries_of test (take place lines)) f =
        place_is (is_entry_named test (name_of f)) place lines l ls e here ∙ ap not (names_in test f (take place lines)) in
        pick (holds_beside id but) (is_new (entries_of test (take place lines))) f (filter (λ other. not (has_name (name_of f) other)) (counting (entries_of test ls)))
        (filter (is_new (entries_of test (take place lines) ++ f ∷ [])) (counting (entries_of test ls))) (is_first_at test lines place f) first
        (filter_twice (is_new (entries_of test (take place lines))) (λ other. not (has_name (name_of f) other)) (counting (entries_of test ls))
        ∙ ap (λ (p : Fields → Bool). filter p (counting (entries_of test ls))) (λ j x. new_after (entries_of test (take place lines)) f x j))

-- by names alone: what a line at a place answers, and else what is left after it
pub names_step : (test : Fields → Bool) (lines : List (List ℕ)) (place id : ℕ) (but l : List ℕ) (ls : List (List ℕ)) (r : Option (List ℕ)) → drop place lines ≡ l ∷ ls → r ≡ option_map name_of (chosen_at test lines place id but l)
    → option_map name_of (left_at test lines place id but) ≡ option_or r (option_map name_of (left_at test lines (place + 1) id but))
names_step test lines place id but l ls r e is =
    rw (left_step test lines place id but l ls e, is) (by_chosen (chosen_at test lines place id but l))
  where
    by_chosen : (o : Option Fields) → option_map name_of (option_or o (left_at test lines (place + 1) id but)) ≡ option_or (option_map name_of o) (option_map name_of (left_at test lines (place + 1) id but))
    by_chosen (Some f) = refl
    by_chosen None = refl

pub left_start : (test : Fields → Bool) (file : List ℕ) (id : ℕ) (but : List ℕ) → option_map name_of (left_at test (lines_of file) 0 id but) ≡ holder_of test file id but
left_start test file id but = ap (λ (es : List Fields). option_map name_of (find (holds_beside id but) es)) (filter_true (counting (entries_of test (lines_of file))))

pub left_end : (test : Fields → Bool) (lines : List (List ℕ)) (place id : ℕ) (but : List ℕ) → drop place lines ≡ [] → left_at test lines place id but ≡ None
left_end test lines place id but e = rw e refl

pub next_rest : (place : ℕ) (lines : List (List ℕ)) (l : List ℕ) (ls : List (List ℕ)) → drop place lines ≡ l ∷ ls → drop (place + 1) lines ≡ ls
next_rest place lines l ls e = (next_line place lines l ls e).1

-- the last line
pub last_step : (test : Fields → Bool) (lines : List (List ℕ)) (place id : ℕ) (but l : List ℕ) (r : Option (List ℕ)) → drop place lines ≡ l ∷ [] → r ≡ option_map name_of (chosen_at test lines place id but l)
    → option_map name_of (left_at test lines place id but) ≡ r
last_step test lines place id but l r e is =
    names_step test lines place id but l [] r e is ∙ ap (λ (o : Option Fields). option_or r (option_map name_of o)) (left_end test lines (place + 1) id but (next_rest place lines l [] e))
    ∙ option_or-none r

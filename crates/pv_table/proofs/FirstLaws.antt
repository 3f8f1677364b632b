-- The first place at or below each path of a line, found path by path.
use Rattle.std.proofs.Common.{◌≡◌, ◌∙◌, sym, ap, refl, arith, suc, inl, inr, length-append}
use Rattle.std.specs.Prelude.{ℕ, ◌⊎◌, Bool, true, false, cond, ◌&&◌, ◌||◌, List, [], ◌∷◌, ◌++◌, length, take, Option, Some, None, is_some, option_map}
use Rattle.std.specs.Option.{option_or}
use Rattle.std.proofs.Common.{◌<◌, ◌≤◌, ◌+◌, get_or}
use Rattle.std.proofs.lemmas.Bool.{and_parts, and_from}
use Rattle.std.proofs.lemmas.List.{take_more, length-take}
use Rattle.std.proofs.Math.Bool.{and-false}
use Rattle.pv_path.specs.Names.{same_bytes}
use Rattle.pv_lines.specs.declared.line.Line.{Line}
use Rattle.pv_lines.specs.declared.line.LinePath.TheVariants.{Literal}
use Rattle.pv_table.specs.Reaching.{is_creating, path_in}
use Rattle.pv_table.specs.Building.{first_index, makes}
use Rattle.pv_table.specs.Ranking.{HasPrefixes, first_known, first_under, makes_under}
use Rattle.pv_table.proofs.PlaceLaws.{first_index-push, option_or-none}
use Rattle.pv_path.specs.Paths.{Path, is_prefix, same_path, same_path-decides}
use Rattle.pv_path.proofs.PathLaws.{is_prefix-refl, is_prefix-trans, length-prefix, same_path-no}

same_path-sym : (p q : Path) → same_path p q ≡ true → same_path q p ≡ true
same_path-sym p q e = (same_path-decides q p).1 (sym ((same_path-decides p q).0 e))

-- a place that is noted for a path that has none yet
pub noted : (known : Path → Bool) (old new : Path → Option ℕ) (path : Path) (place : ℕ) → known path ≡ true → old path ≡ None
    → ((q : Path) → new q ≡ cond (same_path path q) (Some place) (old q))
    → (q : Path) → new q ≡ option_or (old q) (cond (known q && same_path q path) (Some place) None)
noted known old new path place is_known none is q = is q ∙ by_test (same_path path q) refl
  where
    here : same_path path q ≡ true → Some place ≡ option_or (old q) (cond (known q && same_path q path) (Some place) None)
    here test =
        let same : path ≡ q = (same_path-decides path q).0 test in
        let known_q : known q ≡ true = ap known (sym same) ∙ is_known in
        let none_q : old q ≡ None = ap old (sym same) ∙ none in
        rw (none_q, known_q, same_path-sym path q test) refl

    elsewhere : same_path path q ≡ false → old q ≡ option_or (old q) (cond (known q && same_path q path) (Some place) None)
    elsewhere test = by_back (same_path q path) refl
      where
        by_back : (b : Bool) → same_path q path ≡ b → old q ≡ option_or (old q) (cond (known q && b) (Some place) None)
        by_back true back = absurd (let yes = same_path-sym q path back in cc)
        by_back false back = rw (and-false (known q)) (option_or-none (old q))

    by_test : (b : Bool) → same_path path q ≡ b → cond b (Some place) (old q) ≡ option_or (old q) (cond (known q && same_path q path) (Some place) None)
    by_test true test = here test
    by_test false test = elsewhere test

-- what has a place is not changed by one more
pub option_or-some : (o more : Option ℕ) → is_some o ≡ true → o ≡ option_or o more
option_or-some None more e = cc
option_or-some (Some n) more e = refl

-- a path that is not that of a line, or has a place, gets none
pub not_noted : (known : Path → Bool) (old : Path → Option ℕ) (path : Path) (place : ℕ) → (known path ≡ false) ⊎ (is_some (old path) ≡ true)
    → (q : Path) → old q ≡ option_or (old q) (cond (known q && same_path q path) (Some place) None)
not_noted known old path place wants q = by_test (same_path q path) refl
  where
    here : q ≡ path → (known path ≡ false) ⊎ (is_some (old path) ≡ true) → old q ≡ option_or (old q) (cond (known q && true) (Some place) None)
    here same (inl other) = let other_q : known q ≡ false = ap known same ∙ other in rw other_q (option_or-none (old q))
    here same (inr has) = option_or-some (old q) (cond (known q && true) (Some place) None) (ap (λ (p : Path). is_some (old p)) same ∙ has)

    by_test : (b : Bool) → same_path q path ≡ b → old q ≡ option_or (old q) (cond (known q && b) (Some place) None)
    by_test true test = here ((same_path-decides q path).0 test) wants
    by_test false test = rw (and-false (known q)) (option_or-none (old q))

-- ---- all prefixes of a path

pub is_prefix-root : (q : Path) → is_prefix q [] ≡ same_path q []
is_prefix-root [] = refl
is_prefix-root (n ∷ q) = refl

-- the prefixes of a path with one name more are those of the path, and the path itself
pub is_prefix-push : (q p : Path) (n : List ℕ) → is_prefix q (p ++ n ∷ []) ≡ (is_prefix q p || same_path q (p ++ n ∷ []))
is_prefix-push [] p n = refl
is_prefix-push (m ∷ q) [] n = ap (λ (b : Bool). same_bytes m n && b) (is_prefix-root q)
is_prefix-push (m ∷ q) (k ∷ p) n = ap (λ (b : Bool). same_bytes m k && b) (is_prefix-push q p n) ∙ spread (same_bytes m k) (is_prefix q p) (same_path q (p ++ n ∷ []))
  where
    spread : (a b c : Bool) → (a && (b || c)) ≡ ((a && b) || (a && c))
    spread true b c = refl
    spread false b c = refl

-- a prefix of a path is not that path with one name more
prefix_not_longer : (q p : Path) (n : List ℕ) → is_prefix q p ≡ true → same_path q (p ++ n ∷ []) ≡ false
prefix_not_longer q p n below = same_path-no q (p ++ n ∷ []) (λ same.
    let short = length-prefix q p below in
    let long : length q ≡ length p + 1 = ap length same ∙ length-append p (n ∷ []) in
    omega (arith, short, long))

joined : (o : Option ℕ) (k a b : Bool) (n : ℕ) → option_or (option_or o (cond (k && b) (Some n) None)) (cond (k && a) (Some n) None) ≡ option_or o (cond (k && (a || b)) (Some n) None)
joined None true true true n = refl
joined None true true false n = refl
joined None true false true n = refl
joined None true false false n = refl
joined None false a b n = refl
joined (Some m) k a b n = refl

-- while places are noted from a path up: what they are now, and that only the prefixes up to a length may lack one
pub record NotedDownTo (known : Path → Bool) (old now : Path → Option ℕ) (path : Path) (left place : ℕ) : Type 0 where
  pub untouched : (q : Path) → is_prefix q (take left path) ≡ true → now q ≡ old q
  pub rest : (q : Path) → option_or (now q) (cond (known q && is_prefix q (take left path)) (Some place) None) ≡ option_or (old q) (cond (known q && is_prefix q path) (Some place) None)

-- the longest of those prefixes is noted
pub one_noted : (known : Path → Bool) (old now new : Path → Option ℕ) (path prefix : Path) (left less place : ℕ) → left ≡ less + 1 → left ≤ length path → prefix ≡ take left path
    → NotedDownTo known old now path left place
    → ((q : Path) → new q ≡ option_or (now q) (cond (known q && same_path q prefix) (Some place) None))
    → NotedDownTo known old new path less place
one_noted known old now new path prefix left less place more within is before step =
    let name = get_or path less [] in
    let longer : take left path ≡ take less path ++ name ∷ [] = ap (λ (n : ℕ). take n path) more ∙ take_more path less [] (omega (arith, more, within)) in
    let step_by : (q : Path) → new q ≡ option_or (now q) (cond (known q && same_path q (take less path ++ name ∷ [])) (Some place) None) =
    λ q. step q ∙ ap (λ (p : Path). option_or (now q) (cond (known q && same_path q p) (Some place) None)) (is ∙ longer) in
    let prefixes : (q : Path) → (is_prefix q (take less path) || same_path q (take less path ++ name ∷ [])) ≡ is_prefix q (take left path) =
    λ q. sym (ap (is_prefix q) longer ∙ is_prefix-push q (take less path) name) in
    record {
      untouched = λ q below.
          step_by q
          ∙ ap (λ b. option_or (now q) (cond (known q && b) (Some place) None)) (prefix_not_longer q (take less path) name below)
          ∙ ap (λ b. option_or (now q) (cond b (Some place) None)) (and-false (known q))
          ∙ sym (option_or-none (now q))
          ∙ before.untouched q (sym (prefixes q) ∙ ap (λ b. b || same_path q (take less path ++ name ∷ [])) below);
      rest = λ q.
          ap (λ (o : Option ℕ). option_or o (cond (known q && is_prefix q (take less path)) (Some place) None)) (step_by q)
          ∙ joined (now q) (known q) (is_prefix q (take less path)) (same_path q (take less path ++ name ∷ [])) place
          ∙ ap (λ b. option_or (now q) (cond (known q && b) (Some place) None)) (prefixes q)
          ∙ before.rest q;
    }

-- the root is noted last
pub all_noted : (known : Path → Bool) (old now new : Path → Option ℕ) (path root : Path) (left place : ℕ) → left ≡ 0 → root ≡ [] → NotedDownTo known old now path left place
    → ((q : Path) → new q ≡ option_or (now q) (cond (known q && same_path q root) (Some place) None))
    → (q : Path) → new q ≡ option_or (old q) (cond (known q && is_prefix q path) (Some place) None)
all_noted known old now new path root left place none is before step q =
    let front : take left path ≡ [] = ap (λ (n : ℕ). take n path) none in
    step q
    ∙ ap (λ b. option_or (now q) (cond (known q && b) (Some place) None)) (ap (same_path q) is ∙ sym (ap (is_prefix q) front ∙ is_prefix-root q))
    ∙ before.rest q

-- a prefix that has a place ends it, where the prefixes of that have places too
pub rest_noted : (known : Path → Bool) (old now new : Path → Option ℕ) (path prefix : Path) (left place : ℕ) → prefix ≡ take left path
    → NotedDownTo known old now path left place
    → ((q : Path) → new q ≡ option_or (now q) (cond (known q && same_path q prefix) (Some place) None))
    → is_some (now prefix) ≡ true
    → ((q : Path) → is_some (old prefix) ≡ true → is_prefix q prefix ≡ true → known q ≡ true → is_some (old q) ≡ true)
    → (q : Path) → new q ≡ option_or (old q) (cond (known q && is_prefix q path) (Some place) None)
rest_noted known old now new path prefix left place is before step has have q =
    let whole : is_prefix prefix (take left path) ≡ true = ap (λ (p : Path). is_prefix p (take left path)) is ∙ is_prefix-refl (take left path) in
    let had : is_some (old prefix) ≡ true = sym (ap is_some (before.untouched prefix whole)) ∙ has in
    let same : new q ≡ now q = step q ∙ sym (not_noted known now prefix place (inr has) q) in
    same ∙ by_test (λ below. have q had (ap (is_prefix q) is ∙ below)) (known q && is_prefix q (take left path)) refl
  where
    by_test : (is_prefix q (take left path) ≡ true → known q ≡ true → is_some (old q) ≡ true)
        → (b : Bool) → (known q && is_prefix q (take left path)) ≡ b → now q ≡ option_or (old q) (cond (known q && is_prefix q path) (Some place) None)
    by_test above true e =
        let u = and_parts (known q) (is_prefix q (take left path)) e in
        option_or-some (now q) (cond (known q && is_prefix q (take left path)) (Some place) None) (ap is_some (before.untouched q u.1) ∙ above u.1 u.0)
        ∙ before.rest q
    by_test above false e = option_or-none (now q) ∙ ap (λ b. option_or (now q) (cond b (Some place) None)) (sym e) ∙ before.rest q

-- ---- what has a place

-- an item that passes a test passes a wider one
first_index-wider : {A : Type 0} (test wider : A → Bool) → ((x : A) → test x ≡ true → wider x ≡ true) → (xs : List A) → is_some (first_index test xs) ≡ true → is_some (first_index wider xs) ≡ true
first_index-wider test wider more [] e = cc
first_index-wider {A} test wider more (x ∷ xs) e = by_wider (first_index-wider test wider more xs) (wider x) refl
  where
    mapped : (o : Option ℕ) → is_some (option_map suc o) ≡ is_some o
    mapped None = refl
    mapped (Some n) = refl

    by_test : (b : Bool) → test x ≡ b → wider x ≡ false → is_some (cond b (Some 0) (option_map suc (first_index test xs))) ≡ true → is_some (first_index test xs) ≡ true
    by_test true t f h = absurd (let yes = more x t in cc)
    by_test false t f h = sym (mapped (first_index test xs)) ∙ h

    by_wider : (is_some (first_index test xs) ≡ true → is_some (first_index wider xs) ≡ true) → (b : Bool) → wider x ≡ b → is_some (cond b (Some 0) (option_map suc (first_index wider xs))) ≡ true
    by_wider rest true w = refl
    by_wider rest false w = mapped (first_index wider xs) ∙ rest (by_test (test x) refl w e)

-- what lies at or below a path lies at or below each prefix of it
pub first_known-prefixes : (table lines : List Line) → HasPrefixes table (first_known table lines)
first_known-prefixes table lines p q has below known =
    let found : is_some (first_under lines p) ≡ true = inside (is_some (first_index (makes p) table)) (first_under lines p) has in
    rw known
    (first_index-wider (makes_under p) (makes_under q)
    (λ line passes.
    let u = and_parts (is_creating line) (is_prefix p (path_in line.path)) passes in
    and_from (is_creating line) (is_prefix q (path_in line.path)) u.0 (is_prefix-trans q p (path_in line.path) below u.1))
    lines found)
  where
    inside : (k : Bool) (o : Option ℕ) → is_some (cond k o None) ≡ true → is_some o ≡ true
    inside true o e = e
    inside false o e = cc

-- the same for what answers as that does
pub known-prefixes : (table lines : List Line) (place : Path → Option ℕ) → ((q : Path) → place q ≡ first_known table lines q) → HasPrefixes table place
known-prefixes table lines place is p q has below known = ap is_some (is q) ∙ first_known-prefixes table lines p q (sym (ap is_some (is p)) ∙ has) below known

-- ---- all lines

-- with one line more
first_known-push : (table front : List Line) (line : Line) (q : Path) → first_known table (front ++ line ∷ []) q
    ≡ option_or (first_known table front q) (cond (is_some (first_index (makes q) table) && makes_under q line) (Some (length front)) None)
first_known-push table front line q =
    ap (λ (o : Option ℕ). cond (is_some (first_index (makes q) table)) o None) (first_index-push (makes_under q) front line)
    ∙ by_known (is_some (first_index (makes q) table)) (first_under front q) (makes_under q line)
  where
    by_known : (k : Bool) (o : Option ℕ) (b : Bool) → cond k (option_or o (cond b (Some (length front)) None)) None ≡ option_or (cond k o None) (cond (k && b) (Some (length front)) None)
    by_known true o b = refl
    by_known false o b = refl

pub first_known_more : (table lines : List Line) (i : ℕ) (line : Line) (old new : Path → Option ℕ) → i < length lines → line ≡ get_or lines i line
    → ((q : Path) → old q ≡ first_known table (take i lines) q)
    → ((q : Path) → new q ≡ option_or (old q) (cond (is_some (first_index (makes q) table) && makes_under q line) (Some i) None))
    → (q : Path) → new q ≡ first_known table (take (i + 1) lines) q
first_known_more table lines i line old new within there before step q =
    let front : take (i + 1) lines ≡ take i lines ++ line ∷ [] = take_more lines i line within ∙ ap (λ (l : Line). take i lines ++ l ∷ []) (sym there) in
    let count : length (take i lines) ≡ i = omega (arith, length-take i lines) in
    step q
    ∙ ap (λ (o : Option ℕ). option_or o (cond (is_some (first_index (makes q) table) && makes_under q line) (Some i) None)) (before q)
    ∙ ap (λ (n : ℕ). option_or (first_known table (take i lines) q) (cond (is_some (first_index (makes q) table) && makes_under q line) (Some n) None)) (sym count)
    ∙ sym (ap (λ (ls : List Line). first_known table ls q) front ∙ first_known-push table (take i lines) line q)

-- with a line that makes something, whose path's prefixes are noted
pub first_known_literal : (table lines : List Line) (i : ℕ) (line : Line) (path : Path) (old new : Path → Option ℕ) → i < length lines → line ≡ get_or lines i line → line.path ≡ Literal path
    → ((q : Path) → old q ≡ first_known table (take i lines) q)
    → ((q : Path) → new q ≡ option_or (old q) (cond (is_some (first_index (makes q) table) && is_prefix q path) (Some i) None))
    → (q : Path) → new q ≡ first_known table (take (i + 1) lines) q
first_known_literal table lines i line path old new within there is before step =
    first_known_more table lines i line old new within there before
    (λ q. step q ∙ ap (λ (b : Bool). option_or (old q) (cond (is_some (first_index (makes q) table) && b) (Some i) None)) (sym (under q)))
  where
    under : (q : Path) → makes_under q line ≡ is_prefix q path
    under q = rw is refl

-- with a line that makes nothing
pub first_known_other : (table lines : List Line) (i : ℕ) (line : Line) (old : Path → Option ℕ) → i < length lines → line ≡ get_or lines i line → is_creating line ≡ false
    → ((q : Path) → old q ≡ first_known table (take i lines) q) → (q : Path) → old q ≡ first_known table (take (i + 1) lines) q
first_known_other table lines i line old within there other before =
    first_known_more table lines i line old old within there before
    (λ q. option_or-none (old q) ∙ ap (λ (b : Bool). option_or (old q) (cond b (Some i) None)) (sym (none q)))
  where
    none : (q : Path) → (is_some (first_index (makes q) table) && makes_under q line) ≡ false
    none q = rw other (and-false (is_some (first_index (makes q) table)))

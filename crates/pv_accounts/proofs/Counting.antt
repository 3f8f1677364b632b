-- IDs that are in use, by how many names have them.
use Rattle.std.proofs.Common.{◌≡◌, ℕ, ◌+◌, Bool, true, false, not, ◌&&◌, ◌||◌, ◌==◌, nat_eq, nat_lt, List, [], ◌∷◌, ◌++◌, map, Option, Some, None, unwrap_or, refl, sym, ap, ◌∙◌, arith, cond, Bor}
use Rattle.std.specs.Map.{lookup}
use Rattle.std.specs.Str.{bytes_eq}
use Rattle.std.proofs.lemmas.Bool.Decides.{nat_tests}
use Rattle.std.proofs.lemmas.List.{map-append}
use Rattle.std.proofs.lemmas.Slice.Eq.{bytes_eq-Decides}
use Rattle.pv_accounts.specs.InUse.{AreApart, AreCounts, Ids, count_of, id_of, is_held, is_held_beside, is_own}
use Rattle.std.proofs.lemmas.Bool.{eqb-true}

-- the names and IDs that entries of a map show
abbrev pub names_of : List (Bor (List ℕ) × ℕ) → Ids
names_of = map (λ e. (e.0.now, e.1))

pub found_in : (name : List ℕ) (es : List (Bor (List ℕ) × ℕ)) → lookup (λ k. bytes_eq name k.now) es ≡ id_of (names_of es) name
found_in name [] = refl
found_in name (e ∷ es) = by_test (bytes_eq name e.0.now) (found_in name es)
  where
    by_test : (b : Bool) → lookup (λ k. bytes_eq name k.now) es ≡ id_of (names_of es) name → cond b (Some e.1) (lookup (λ k. bytes_eq name k.now) es) ≡ cond b (Some e.1) (id_of (names_of es) name)
    by_test true rest = refl
    by_test false rest = rest

pub names_more : (es : List (Bor (List ℕ) × ℕ)) (name : Bor (List ℕ)) (id : ℕ) → names_of (es ++ (name, id) ∷ []) ≡ names_of es ++ (name.now, id) ∷ []
names_more es name id = map-append (λ e. (e.0.now, e.1)) es ((name, id) ∷ [])

some_more : (n : ℕ) → nat_lt 0 (1 + n) ≡ true
some_more n = grind (arith, nat_tests)

one_more : (n : ℕ) → nat_lt 1 (1 + n) ≡ nat_lt 0 n
one_more n = grind (arith, nat_tests)

equal_is : (n m : ℕ) → n ≡ m → (n == m) ≡ true
equal_is n m h = grind (arith, nat_tests)

pub held_counted : (ids : Ids) (id : ℕ) → nat_lt 0 (count_of ids id) ≡ is_held ids id
held_counted [] id = refl
held_counted (held ∷ ids) id = by_test (held.1 == id) (held_counted ids id)
  where
    by_test : (b : Bool) → nat_lt 0 (count_of ids id) ≡ is_held ids id → nat_lt 0 (cond b (1 + count_of ids id) (count_of ids id)) ≡ (b || is_held ids id)
    by_test true rest = some_more (count_of ids id)
    by_test false rest = rest

-- a name that is not there does not count
beside_none : (ids : Ids) (id : ℕ) (but : List ℕ) → id_of ids but ≡ None → is_held_beside ids id but ≡ is_held ids id
beside_none [] id but h = refl
beside_none (held ∷ ids) id but h = by_test (bytes_eq but held.0) refl (beside_none ids id but)
  where
    kept : (b c : Bool) → c ≡ is_held ids id → ((b && not false) || c) ≡ (b || is_held ids id)
    kept true c e = refl
    kept false c e = e

    by_test : (b : Bool) → bytes_eq but held.0 ≡ b → (id_of ids but ≡ None → is_held_beside ids id but ≡ is_held ids id) → is_held_beside (held ∷ ids) id but ≡ is_held (held ∷ ids) id
    by_test true e rest = let found : Some held.1 ≡ None = rw e at h in cc
    by_test false e rest =
        let gone : id_of ids but ≡ None = rw e at h in
        rw e (kept (held.1 == id) (is_held_beside ids id but) (rest gone))

-- a name that has the ID is one of those that have it
own_held : (ids : Ids) (id : ℕ) (but : List ℕ) → id_of ids but ≡ Some id → is_held ids id ≡ true
own_held [] id but h = cc
own_held (held ∷ ids) id but h = by_test (bytes_eq but held.0) refl (own_held ids id but)
  where
    later : (b : Bool) → is_held ids id ≡ true → (b || is_held ids id) ≡ true
    later true e = refl
    later false e = e

    by_test : (b : Bool) → bytes_eq but held.0 ≡ b → (id_of ids but ≡ Some id → is_held ids id ≡ true) → is_held (held ∷ ids) id ≡ true
    by_test true e rest =
        let found : Some held.1 ≡ Some id = rw e at h in
        let here : held.1 ≡ id = cc in
        rw (equal_is held.1 id here) refl
    by_test false e rest = let left : id_of ids but ≡ Some id = rw e at h in later (held.1 == id) (rest left)

-- the name that has the ID, and others
beside_own : (ids : Ids) (id : ℕ) (but : List ℕ) → AreApart ids → id_of ids but ≡ Some id → nat_lt 1 (count_of ids id) ≡ is_held_beside ids id but
beside_own [] id but apart h = cc
beside_own (held ∷ ids) id but apart h = by_test (bytes_eq but held.0) refl (beside_own ids id but apart.1)
  where
    later : (b : Bool) → is_held ids id ≡ true → nat_lt 1 (count_of ids id) ≡ is_held_beside ids id but
        → nat_lt 1 (cond b (1 + count_of ids id) (count_of ids id)) ≡ ((b && not false) || is_held_beside ids id but)
    later true some rest = one_more (count_of ids id) ∙ held_counted ids id ∙ some
    later false some rest = rest

    here : (b : Bool) → b ≡ true → is_held_beside ids id but ≡ is_held ids id → nat_lt 1 (cond b (1 + count_of ids id) (count_of ids id)) ≡ ((b && not true) || is_held_beside ids id but)
    here true e others = one_more (count_of ids id) ∙ held_counted ids id ∙ sym others
    here false e others = cc

    by_test : (b : Bool) → bytes_eq but held.0 ≡ b → (id_of ids but ≡ Some id → nat_lt 1 (count_of ids id) ≡ is_held_beside ids id but) → nat_lt 1 (count_of (held ∷ ids) id) ≡ is_held_beside (held ∷ ids) id but
    by_test true e rest =
        let found : Some held.1 ≡ Some id = rw e at h in
        let same : held.1 ≡ id = cc in
        let name : but ≡ held.0 = (bytes_eq-Decides but held.0).0 e in
        let gone : id_of ids but ≡ None = rw name apart.0 in
        rw e (here (held.1 == id) (equal_is held.1 id same) (beside_none ids id but gone))
    by_test false e rest =
        let left : id_of ids but ≡ Some id = rw e at h in
        rw e (later (held.1 == id) (own_held ids id but left) (rest left))

pub beside_yes : (ids : Ids) (id : ℕ) (but : List ℕ) → AreApart ids → is_own ids id but ≡ true → nat_lt 1 (count_of ids id) ≡ is_held_beside ids id but
beside_yes ids id but apart own = beside_own ids id but apart (by (id_of ids but) refl)
  where
    by : (o : Option ℕ) → id_of ids but ≡ o → id_of ids but ≡ Some id
    by None e = let bad : false ≡ true = rw e at own in cc
    by (Some n) e =
        let test : (n == id) ≡ true = rw e at own in
        e ∙ ap (λ (m : ℕ). Some m) (eqb-true n id test)

-- a name that has another ID, or none
pub beside_no : (ids : Ids) (id : ℕ) (but : List ℕ) → AreApart ids → is_own ids id but ≡ false → nat_lt 0 (count_of ids id) ≡ is_held_beside ids id but
beside_no ids id but apart own = held_counted ids id ∙ others ids apart own
  where
    others : (ids : Ids) → AreApart ids → is_own ids id but ≡ false → is_held ids id ≡ is_held_beside ids id but
    others [] apart own = refl
    others (held ∷ ids) apart own = by_test (bytes_eq but held.0) refl (others ids apart.1)
      where
        kept : (b : Bool) → is_held ids id ≡ is_held_beside ids id but → (b || is_held ids id) ≡ ((b && not false) || is_held_beside ids id but)
        kept true rest = refl
        kept false rest = rest

        away : (b : Bool) → b ≡ false → is_held_beside ids id but ≡ is_held ids id → (b || is_held ids id) ≡ ((b && not true) || is_held_beside ids id but)
        away true e rest = cc
        away false e rest = sym rest

        by_test : (b : Bool) → bytes_eq but held.0 ≡ b → (is_own ids id but ≡ false → is_held ids id ≡ is_held_beside ids id but) → is_held (held ∷ ids) id ≡ is_held_beside (held ∷ ids) id but
        by_test true e rest =
            let apart_id : (held.1 == id) ≡ false = rw e at own in
            let name : but ≡ held.0 = (bytes_eq-Decides but held.0).0 e in
            let gone : id_of ids but ≡ None = rw name apart.0 in
            rw e (away (held.1 == id) apart_id (beside_none ids id but gone))
        by_test false e rest =
            let left : is_own ids id but ≡ false = rw e at own in
            rw e (kept (held.1 == id) (rest left))

-- one name more
pub apart_more : (ids : Ids) (name : List ℕ) (id : ℕ) → AreApart ids → id_of ids name ≡ None → AreApart (ids ++ (name, id) ∷ [])
apart_more [] name id apart h = (refl, tt)
apart_more (held ∷ ids) name id apart h = by_test (bytes_eq name held.0) refl (apart_more ids name id apart.1)
  where
    turned : bytes_eq name held.0 ≡ false → bytes_eq held.0 name ≡ false
    turned e = by (bytes_eq held.0 name) refl
      where
        by : (b : Bool) → bytes_eq held.0 name ≡ b → b ≡ false
        by false k = refl
        by true k =
            let same : name ≡ held.0 = sym ((bytes_eq-Decides held.0 name).0 k) in
            let yes : bytes_eq name held.0 ≡ true = (bytes_eq-Decides name held.0).1 same in
            cc

    after : (xs : Ids) → id_of xs held.0 ≡ None → bytes_eq held.0 name ≡ false → id_of (xs ++ (name, id) ∷ []) held.0 ≡ None
    after [] k e = rw e refl
    after (x ∷ xs) k e = by (bytes_eq held.0 x.0) refl (after xs)
      where
        by : (b : Bool) → bytes_eq held.0 x.0 ≡ b → (id_of xs held.0 ≡ None → bytes_eq held.0 name ≡ false → id_of (xs ++ (name, id) ∷ []) held.0 ≡ None) → id_of (x ∷ (xs ++ (name, id) ∷ [])) held.0 ≡ None
        by true d rest = let found : Some x.1 ≡ None = rw d at k in cc
        by false d rest = let left : id_of xs held.0 ≡ None = rw d at k in rw d (rest left e)

    by_test : (b : Bool) → bytes_eq name held.0 ≡ b → (id_of ids name ≡ None → AreApart (ids ++ (name, id) ∷ [])) → AreApart (held ∷ (ids ++ (name, id) ∷ []))
    by_test true e rest = let found : Some held.1 ≡ None = rw e at h in cc
    by_test false e rest = let left : id_of ids name ≡ None = rw e at h in (after ids apart.0 (turned e), rest left)

count_more : (ids : Ids) (name : List ℕ) (id q : ℕ) → count_of (ids ++ (name, id) ∷ []) q ≡ count_of ids q + cond (id == q) 1 0
count_more [] name id q = by_test (id == q)
  where
    by_test : (b : Bool) → cond b (1 + 0) 0 ≡ 0 + cond b 1 0
    by_test true = refl
    by_test false = refl
count_more (held ∷ ids) name id q = by_test (held.1 == q) (count_more ids name id q)
  where
    by_test : (b : Bool) → count_of (ids ++ (name, id) ∷ []) q ≡ count_of ids q + cond (id == q) 1 0
        → cond b (1 + count_of (ids ++ (name, id) ∷ []) q) (count_of (ids ++ (name, id) ∷ []) q) ≡ cond b (1 + count_of ids q) (count_of ids q) + cond (id == q) 1 0
    by_test true rest = omega (arith, rest)
    by_test false rest = rest

pub counted_more : (old new : List (ℕ × ℕ)) (ids : Ids) (name : List ℕ) (id n : ℕ) → AreCounts old ids → n ≡ count_of ids id + 1
    → ((q : ℕ) → lookup (nat_eq q) new ≡ cond (nat_eq id q) (Some n) (lookup (nat_eq q) old)) → AreCounts new (ids ++ (name, id) ∷ [])
counted_more old new ids name id n counts is up = λ q. rw (up q, count_more ids name id q) (by_test q (id == q) refl (counts q))
  where
    by_test : (q : ℕ) (b : Bool) → (id == q) ≡ b → unwrap_or (lookup (nat_eq q) old) 0 ≡ count_of ids q → unwrap_or (cond b (Some n) (lookup (nat_eq q) old)) 0 ≡ count_of ids q + cond b 1 0
    by_test q true e here = is ∙ ap (λ (m : ℕ). count_of ids m + 1) (eqb-true id q e)
    by_test q false e here = here ∙ omega arith

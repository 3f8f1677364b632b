-- Names with IDs that are alike: if no name comes twice, what IDs the names have says which IDs are held, and by whom.
use Rattle.std.proofs.Common.{◌≡◌, ℕ, Bool, true, false, not, ◌&&◌, ◌||◌, ◌==◌, List, [], ◌∷◌, Option, Some, None, refl, sym, ap, ◌∙◌, cond}
use Rattle.std.specs.List.{list_any}
use Rattle.std.specs.Str.{bytes_eq}
use Rattle.std.proofs.lemmas.Slice.Eq.{bytes_eq-Decides}
use Rattle.pv_accounts.specs.InUse.{AreApart, Ids, id_of, is_held, is_held_beside}
use Rattle.pv_path.proofs.Tests.{same_tests}

-- the same IDs of names, and the same holders
pub record AreAlike (a b : Ids) : Type 0 where
  pub ids : id_of a ≡ id_of b
  pub held : is_held a ≡ is_held b
  pub beside : is_held_beside a ≡ is_held_beside b

-- a name with its ID that passes a test
record Found (p : List ℕ × ℕ → Bool) (ids : Ids) : Type 0 where
  name : List ℕ
  id : ℕ
  is : id_of ids name ≡ Some id
  passes : p (name, id) ≡ true

found_first : (p : List ℕ × ℕ → Bool) (held : List ℕ × ℕ) (ids : Ids) → p held ≡ true → Found p (held ∷ ids)
found_first p held ids h = record {
  name = held.0;
  id = held.1;
  is = ap (λ b. cond b (Some held.1) (id_of ids held.0)) ((bytes_eq-Decides held.0 held.0).1 refl);
  passes = h;
}

found_later : (p : List ℕ × ℕ → Bool) (held : List ℕ × ℕ) (ids : Ids) → id_of ids held.0 ≡ None → Found p ids → Found p (held ∷ ids)
found_later p held ids apart f = record { name = f.name; id = f.id; is = by (bytes_eq f.name held.0) refl; passes = f.passes }
  where
    by : (b : Bool) → bytes_eq f.name held.0 ≡ b → cond b (Some held.1) (id_of ids f.name) ≡ Some f.id
    by true e =
        absurd (let no : ◌≡◌ {A = Option ℕ} None (Some f.id) = sym apart ∙ sym (ap (id_of ids) ((bytes_eq-Decides f.name held.0).0 e)) ∙ f.is in cc)
    by false e = f.is

found_any : (p : List ℕ × ℕ → Bool) (ids : Ids) → AreApart ids → list_any p ids ≡ true → Found p ids
found_any p [] apart h = absurd (let no : false ≡ true = h in cc)
found_any p (held ∷ ids) apart h = by (p held) refl h (found_any p ids apart.1)
  where
    by : (b : Bool) → p held ≡ b → (b || list_any p ids) ≡ true → (list_any p ids ≡ true → Found p ids) → Found p (held ∷ ids)
    by true e k rest = found_first p held ids e
    by false e k rest = found_later p held ids apart.0 (rest k)

any_found : (p : List ℕ × ℕ → Bool) (ids : Ids) (name : List ℕ) (id : ℕ) → id_of ids name ≡ Some id → p (name, id) ≡ true → list_any p ids ≡ true
any_found p [] name id h k = absurd (let no : ◌≡◌ {A = Option ℕ} None (Some id) = h in cc)
any_found p (held ∷ ids) name id h k = by (bytes_eq name held.0) refl h (any_found p ids name id)
  where
    later : (b : Bool) → list_any p ids ≡ true → (b || list_any p ids) ≡ true
    later true e = refl
    later false e = e

    by : (b : Bool) → bytes_eq name held.0 ≡ b → cond b (Some held.1) (id_of ids name) ≡ Some id → (id_of ids name ≡ Some id → p (name, id) ≡ true → list_any p ids ≡ true) → list_any p (held ∷ ids) ≡ true
    by true e found rest =
        let number : held.1 ≡ id = cc in
        let named : name ≡ held.0 = (bytes_eq-Decides name held.0).0 e in
        let here : p held ≡ true = ap p (λ i. (sym named i, number i)) ∙ k in
        ap (λ b. b || list_any p ids) here
    by false e found rest = later (p held) (rest found k)

any_alike : (p : List ℕ × ℕ → Bool) (a b : Ids) → AreApart a → ((name : List ℕ) → id_of a name ≡ id_of b name) → list_any p a ≡ true → list_any p b ≡ true
any_alike p a b apart same h =
    let f : Found p a = found_any p a apart h in
    any_found p b f.name f.id (sym (same f.name) ∙ f.is) f.passes

any_same : (p : List ℕ × ℕ → Bool) (a b : Ids) → AreApart a → AreApart b → ((name : List ℕ) → id_of a name ≡ id_of b name) → list_any p a ≡ list_any p b
any_same p a b apart beside same = same_tests (list_any p a) (list_any p b) (any_alike p a b apart same) (any_alike p b a beside (λ name. sym (same name)))

-- where each name has the same ID, the same IDs are held
pub alike : (a b : Ids) → AreApart a → AreApart b → ((name : List ℕ) → id_of a name ≡ id_of b name) → AreAlike a b
alike a b apart beside same = record {
  ids = λ i name. same name i;
  held = λ i id. any_same (λ held. held.1 == id) a b apart beside same i;
  beside = λ i id but. any_same (λ held. held.1 == id && not (bytes_eq but held.0)) a b apart beside same i;
}

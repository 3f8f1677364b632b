-- Laws of sets over the bytes of an object: sets that write none do not look at them.
use Rattle.std.specs.Prelude.{◌≡◌, ◌⊎◌, ℕ, Bool, true, false, ◌||◌, ◌∷◌, ◌++◌, List, [], Option, Some, option_map, if◌then◌else◌}
use Rattle.std.proofs.Common.{refl, sym, ap, subst, ◌∙◌, inl, inr}
use Rattle.std.proofs.lemmas.List.Folds.{list_any-append}
use Rattle.std.proofs.lemmas.Option.{same_Some}
use Rattle.std.proofs.lemmas.Bool.{or_parts}
use Rattle.pv_steps.specs.Attributes.{put_attrs}
use Rattle.pv_steps.specs.Letters.{letters_after}
use Rattle.pv_walk.specs.declared.object_state.ObjectState.{ObjectState}
use Rattle.pv_walk.specs.declared.operation.Change.{Change}
use Rattle.pv_walk.specs.declared.operation.Change.TheVariants.{Write, Append, Owner, Mode, Entries, Attrs, Letters}
use Rattle.pv_walk.specs.declared.operation.Guard.{Guard}
use Rattle.pv_walk.specs.declared.operation.Operation.{Operation}
use Rattle.pv_walk.specs.declared.operation.Operation.TheVariants.{Apply}
use Rattle.pv_walk.specs.Nodes.{carries_letters, is_file, is_link}
use Rattle.pv_walk.specs.Operations.{admits, changed, run}
use Rattle.pv_walk.specs.Reasons.{is_adjusting}
use Rattle.pv_walk.proofs.OperationLaws.{run-append}
use Rattle.pv_create.specs.Sets.{is_writing, writes, AreSets, AtMostOne, SetsBytes, SetsOwners, SetsMode}
use Rattle.pv_create.proofs.Making.{with_payload, BytesMade, OwnersMade, bytes_made, owners_made, mode_made}

-- ---- one operation

-- what a list makes of an object with other bytes is what it makes of the object, with these bytes
abbrev pub Blind : List Operation → ObjectState → Type 0
Blind xs b = (p : List ℕ) → run xs (Some (with_payload p b)) ≡ option_map (with_payload p) (run xs (Some b))

module _ (guard : Guard) (b : ObjectState) where
  by_guard : (f : ObjectState → ObjectState) → ((p : List ℕ) → f (with_payload p b) ≡ with_payload p (f b)) → (p : List ℕ)
      → Some (if admits guard b.body.kind then f (with_payload p b) else with_payload p b) ≡ Some (with_payload p (if admits guard b.body.kind then f b else b))
  by_guard f past p = by (admits guard b.body.kind)
    where
      by : (s : Bool) → Some (if s then f (with_payload p b) else with_payload p b) ≡ Some (with_payload p (if s then f b else b))
      by true = ap Some (past p)
      by false = refl

  -- bytes are written to files alone
  no_file : (bytes : List ℕ → List ℕ) → is_file b.body.kind ≡ false → (p : List ℕ)
      → (if is_file b.body.kind then with_payload (bytes p) (with_payload p b) else with_payload p b) ≡ with_payload p (if is_file b.body.kind then with_payload (bytes b.body.payload) b else b)
  no_file bytes e p = by (is_file b.body.kind) e
    where
      by : (t : Bool) → t ≡ false → (if t then with_payload (bytes p) (with_payload p b) else with_payload p b) ≡ with_payload p (if t then with_payload (bytes b.body.payload) b else b)
      by true e = absurd (let wrong : true ≡ false = e in cc)
      by false e = refl

  blind_attrs : (attrs : _) → (p : List ℕ) → changed b.body.kind (Attrs attrs) (with_payload p b) ≡ with_payload p (changed b.body.kind (Attrs attrs) b)
  blind_attrs attrs p = by (is_link b.body.kind)
    where
      by : (t : Bool) → (if t then with_payload p b else record (with_payload p b) { metadata = record b.metadata { attrs = put_attrs attrs b.metadata.attrs } }) ≡ with_payload p (if t then b else record b { metadata = record b.metadata { attrs = put_attrs attrs b.metadata.attrs } })
      by true = refl
      by false = refl

  blind_letters : (how : _) (letters : ℕ) → (p : List ℕ) → changed b.body.kind (Letters how letters) (with_payload p b) ≡ with_payload p (changed b.body.kind (Letters how letters) b)
  blind_letters how letters p = by (carries_letters b.body.kind)
    where
      by : (t : Bool) → (if t then record (with_payload p b) { metadata = record b.metadata { letters = letters_after how letters b.metadata.letters } } else with_payload p b)
          ≡ with_payload p (if t then record b { metadata = record b.metadata { letters = letters_after how letters b.metadata.letters } } else b)
      by true = refl
      by false = refl

  blind_change : (change : Change) → (is_writing change ≡ false) ⊎ (is_file b.body.kind ≡ false) → Blind (Apply guard change ∷ []) b
  blind_change (Write bytes) (inl e) = absurd (let wrong : true ≡ false = e in cc)
  blind_change (Write bytes) (inr e) = by_guard (changed b.body.kind (Write bytes)) (no_file (λ p. bytes) e)
  blind_change (Append bytes) (inl e) = absurd (let wrong : true ≡ false = e in cc)
  blind_change (Append bytes) (inr e) = by_guard (changed b.body.kind (Append bytes)) (no_file (λ p. p ++ bytes) e)
  blind_change (Owner uid gid) h = by_guard (changed b.body.kind (Owner uid gid)) (λ p. refl)
  blind_change (Mode mode false) h = by_guard (changed b.body.kind (Mode mode false)) (λ p. refl)
  blind_change (Mode mode true) h = by_guard (changed b.body.kind (Mode mode true)) (λ p. refl)
  blind_change (Entries line how) h = by_guard (changed b.body.kind (Entries line how)) (λ p. refl)
  blind_change (Attrs attrs) h = by_guard (changed b.body.kind (Attrs attrs)) (blind_attrs attrs)
  blind_change (Letters how letters) h = by_guard (changed b.body.kind (Letters how letters)) (blind_letters how letters)

-- ---- lists

or_false : (a : Bool) → (a || false) ≡ false → a ≡ false
or_false true e = e
or_false false e = e

blind_most : (is : Guard → Change → Type 0) (xs : List Operation) → AtMostOne is xs → (b : ObjectState) → (writes xs ≡ false) ⊎ (is_file b.body.kind ≡ false) → Blind xs b
blind_most is [] h b none = λ p. refl
blind_most is (Apply guard change ∷ []) h b (inl e) = blind_change guard b change (inl (or_false (is_writing change) e))
blind_most is (Apply guard change ∷ []) h b (inr e) = blind_change guard b change (inr e)
blind_most is (x ∷ []) h b none = absurd h
blind_most is (x ∷ y ∷ xs) h b none = absurd h

blind_append : (xs ys : List Operation) (b n : ObjectState) → run xs (Some b) ≡ Some n → Blind xs b → Blind ys n → Blind (xs ++ ys) b
blind_append xs ys b n e f g = λ p.
    run-append xs ys (Some (with_payload p b)) ∙ ap (λ (o : Option ObjectState). run ys o) (f p ∙ ap (option_map (with_payload p)) e) ∙ g p
    ∙ ap (option_map (with_payload p)) (ap (λ (o : Option ObjectState). run ys o) (sym e) ∙ sym (run-append xs ys (Some b)))

module _ (bytes owners mode : List Operation) (first : AtMostOne SetsBytes bytes) (second : AtMostOne SetsOwners owners) (third : AtMostOne SetsMode mode) (b : ObjectState) where
  abbrev made : BytesMade bytes b
  made = bytes_made bytes first b

  abbrev with_bytes : ObjectState
  with_bytes = with_payload made.payload b

  abbrev owned : OwnersMade owners with_bytes
  owned = owners_made owners second with_bytes

  abbrev with_owners : ObjectState
  with_owners = record with_bytes { metadata = record with_bytes.metadata { uid = owned.uid; gid = owned.gid } }

  parts_unwritten : writes (bytes ++ (owners ++ mode)) ≡ false → (writes bytes ≡ false) × ((writes owners ≡ false) × (writes mode ≡ false))
  parts_unwritten e =
      let one = or_parts (writes bytes) (writes (owners ++ mode)) (sym (list_any-append (is_adjusting is_writing) bytes (owners ++ mode)) ∙ e) in
      let two = or_parts (writes owners) (writes mode) (sym (list_any-append (is_adjusting is_writing) owners mode) ∙ one.1) in
      (one.0, (two.0, two.1))

  blind_several : (writes (bytes ++ (owners ++ mode)) ≡ false) ⊎ (is_file b.body.kind ≡ false) → Blind (bytes ++ (owners ++ mode)) b
  blind_several (inl e) =
      let none = parts_unwritten e in
      blind_append bytes (owners ++ mode) b with_bytes made.is (blind_most SetsBytes bytes first b (inl none.0))
      (blind_append owners mode with_bytes with_owners owned.is (blind_most SetsOwners owners second with_bytes (inl none.1.0)) (blind_most SetsMode mode third with_owners (inl none.1.1)))
  blind_several (inr e) =
      blind_append bytes (owners ++ mode) b with_bytes made.is (blind_most SetsBytes bytes first b (inr e))
      (blind_append owners mode with_bytes with_owners owned.is (blind_most SetsOwners owners second with_bytes (inr e)) (blind_most SetsMode mode third with_owners (inr e)))

  some_several : (new : ObjectState) × (run (bytes ++ (owners ++ mode)) (Some b) ≡ Some new)
  some_several =
      let moded = mode_made mode third with_owners in (
        record with_owners { metadata = record with_owners.metadata { special = moded.special; acl = record with_owners.metadata.acl { access = moded.access } } },
        run-append bytes (owners ++ mode) (Some b) ∙ ap (λ (o : Option ObjectState). run (owners ++ mode) o) made.is
            ∙ run-append owners mode (Some with_bytes) ∙ ap (λ (o : Option ObjectState). run mode o) owned.is ∙ moded.is,
      )

blind_sets : (sets : List Operation) → AreSets sets → (b : ObjectState) → (writes sets ≡ false) ⊎ (is_file b.body.kind ≡ false) → Blind sets b
blind_sets sets (AreSets.several bytes owners mode e one two three) b none =
    subst (λ (xs : List Operation). Blind xs b) (sym e) (blind_several bytes owners mode one two three b (subst (λ (xs : List Operation). (writes xs ≡ false) ⊎ (is_file b.body.kind ≡ false)) e none))
blind_sets sets (AreSets.alone h) b none = blind_most _ sets h b none

some_most : (is : Guard → Change → Type 0) (xs : List Operation) → AtMostOne is xs → (b : ObjectState) → (new : ObjectState) × (run xs (Some b) ≡ Some new)
some_most is [] h b = (b, refl)
some_most is (Apply guard change ∷ []) h b = (if admits guard b.body.kind then changed b.body.kind change b else b, refl)
some_most is (x ∷ []) h b = absurd h
some_most is (x ∷ y ∷ xs) h b = absurd h

-- what is set of an object leaves an object
pub set_stays : (sets : List Operation) → AreSets sets → (b : ObjectState) → (new : ObjectState) × (run sets (Some b) ≡ Some new)
set_stays sets (AreSets.several bytes owners mode e one two three) b =
    let some = some_several bytes owners mode one two three b in
    (some.0, ap (λ (xs : List Operation). run xs (Some b)) e ∙ some.1)
set_stays sets (AreSets.alone h) b = some_most _ sets h b

-- what sets that write no bytes make of an object is told by one with other bytes
pub unwritten : (sets : List Operation) → AreSets sets → (b : ObjectState) (p : List ℕ) → (writes sets ≡ false) ⊎ (is_file b.body.kind ≡ false) → (new : ObjectState) → run sets (Some (with_payload p b)) ≡ Some new
    → run sets (Some b) ≡ Some (with_payload b.body.payload new)
unwritten sets are b p none new e =
    let blind = blind_sets sets are b none in
    let some = set_stays sets are b in
    let given : new ≡ with_payload p some.0 = same_Some _ _ (sym e ∙ blind p ∙ ap (option_map (with_payload p)) some.1) in
    let own : some.0 ≡ with_payload b.body.payload some.0 = same_Some _ _ (sym some.1 ∙ blind b.body.payload ∙ ap (option_map (with_payload b.body.payload)) some.1) in
    some.1 ∙ ap Some (own ∙ ap (with_payload b.body.payload) (sym given))

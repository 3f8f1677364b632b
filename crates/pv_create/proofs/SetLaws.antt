-- Laws of what lines set of an object without its timestamps: what it is in the end, and that what metadata has given of it
-- on the way is what the first of the sets give.
use Rattle.std.specs.Prelude.{◌≡◌, ℕ, ◌+◌, Bool, true, false, ◌∷◌, ◌++◌, List, [], length, take, filter, Option, Some, if◌then◌else◌}
use Rattle.std.specs.List.{list_any}
use Rattle.std.proofs.Common.{zero, suc, refl, sym, ap, subst, ◌∙◌}
use Rattle.std.proofs.Math.Seq.{take-append_seam, take-append-add, take-length}
use Rattle.std.proofs.lemmas.Grind.{flat_map-append}
use Rattle.pv_acl.specs.declared.part.Part.{Part}
use Rattle.pv_acl.specs.declared.line.AclLine.{AclLine}
use Rattle.pv_acl.specs.declared.line.How.{How}
use Rattle.pv_acl.specs.declared.line.How.TheVariants.{Add}
use Rattle.pv_acl.specs.Applying.{part_after, is_line}
use Rattle.pv_acl.specs.Parts as parts
use Rattle.pv_acl.proofs.Allowed.{is_acl-acl_after}
use Rattle.pv_steps.specs.declared.attr.Attr.{Attr}
use Rattle.pv_steps.specs.declared.letters.LetterHow.{LetterHow}
use Rattle.pv_steps.specs.declared.node.Kind.{Kind}
use Rattle.pv_steps.specs.declared.node.Kind.TheVariants.{Link}
use Rattle.pv_steps.specs.declared.object.Object.{Object}
use Rattle.pv_steps.specs.Attributes.{put_attrs}
use Rattle.pv_steps.specs.Letters.{letters_after}
use Rattle.pv_steps.specs.Objects.{fresh, is_directory}
use Rattle.pv_walk.specs.declared.object_state.ObjectState.{ObjectState}
use Rattle.pv_walk.specs.declared.object_state.Metadata.{Metadata}
use Rattle.pv_walk.specs.declared.operation.Change.TheVariants.{Entries, Attrs, Letters}
use Rattle.pv_walk.specs.declared.operation.Guard.{Guard}
use Rattle.pv_walk.specs.declared.operation.Operation.{Operation}
use Rattle.pv_walk.specs.declared.operation.Operation.TheVariants.{Apply}
use Rattle.pv_walk.specs.Dividing.{base_line, parts_of, parts}
use Rattle.pv_walk.specs.SettingMetadata.{IsMetadata, metadata_mode, with_metadata}
use Rattle.pv_walk.specs.Nodes.{carries_letters, is_link}
use Rattle.pv_walk.specs.Operations.{admits, changed, run}
use Rattle.pv_walk.specs.Reasons.{is_base}
use Rattle.pv_walk.proofs.Dividing.{base_first, run-parts, default_kept}
use Rattle.pv_walk.proofs.OperationLaws.{run-append}
use Rattle.pv_walk.proofs.PartChanges.{base-part_after}
use Rattle.pv_walk.proofs.ChangingLaws.{sets_metadata_mode}
use Rattle.pv_create.specs.Sets.{AreSets, AtMostOne, SetsOther}
use Rattle.pv_create.proofs.Making.{with_payload, BytesMade, OwnersMade, ModeMade, bytes_made, owners_made, mode_made, fits_entries, fits_attrs, fits_letters}

-- ---- what metadata has given

-- an object after the first changes of metadata
abbrev pub worn : ℕ → Metadata → ObjectState → ObjectState
worn zero d b = b
worn (suc zero) d b = record b { metadata = record b.metadata { uid = d.uid; gid = d.gid } }
worn (suc (suc zero)) d b = record b { metadata = record b.metadata { uid = d.uid; gid = d.gid; special = d.special; acl = record b.metadata.acl { access = parts.with_mode (metadata_mode d) b.metadata.acl.access } } }
worn (suc (suc (suc zero))) d b = record b { metadata = record b.metadata { uid = d.uid; gid = d.gid; special = d.special; acl = d.acl } }
worn (suc (suc (suc (suc zero)))) d b = record b { metadata = record b.metadata { uid = d.uid; gid = d.gid; special = d.special; acl = d.acl; attrs = d.attrs } }
worn (suc (suc (suc (suc (suc k))))) d b = record b { metadata = d }

-- the mode of metadata gives its own base entries
mode_itself : (kind : Kind) (d : Metadata) → IsMetadata kind d → parts.with_mode (metadata_mode d) d.acl.access ≡ d.acl.access
mode_itself kind d fits =
    ap (λ (x : Object). x.node.acl.access)
    (sets_metadata_mode kind d fits (with_metadata d (fresh kind 0 [] 0 0 0)) (record { special = refl; base = record { owner = refl; group = refl; other = refl } }))

-- and the same of any part
mode_others : (kind : Kind) (d : Metadata) → IsMetadata kind d → (p : Part)
    → parts.with_mode (metadata_mode d) p ≡ record p { owner = d.acl.access.owner; group = d.acl.access.group; other = d.acl.access.other }
mode_others kind d fits p =
    let self = mode_itself kind d fits in
    λ i. record p { owner = (self i).owner; group = (self i).group; other = (self i).other }

-- ---- the first of some operations

-- the first of some operations make this of an object
pub record Front (xs : List Operation) (b new : ObjectState) : Type 0 where
  pub k : ℕ
  pub is : run (take k xs) (Some b) ≡ Some new

pub front_none : (xs : List Operation) (b : ObjectState) → Front xs b b
front_none xs b = record { k = 0; is = refl }

front_all : (xs : List Operation) (b new : ObjectState) → run xs (Some b) ≡ Some new → Front xs b new
front_all xs b new e = record { k = length xs; is = ap (λ (ys : List Operation). run ys (Some b)) (take-length xs) ∙ e }

front_as : (xs : List Operation) (b x y : ObjectState) → x ≡ y → Front xs b y → Front xs b x
front_as xs b x y e f = record { k = f.k; is = f.is ∙ ap Some (sym e) }

-- ---- what is set of an object

-- bytes, owners and mode, so that extended attributes and letters stay; or these alone
pub data Kept (b new : ObjectState) : Type 0 where
  stays : new.metadata.attrs ≡ b.metadata.attrs → new.metadata.letters ≡ b.metadata.letters → Kept b new
  only : new ≡ record b { metadata = record b.metadata { attrs = new.metadata.attrs; letters = new.metadata.letters } } → Kept b new

pub record IsSet (sets : List Operation) (b : ObjectState) : Type 0 where
  pub new : ObjectState
  pub is : run sets (Some b) ≡ Some new
  pub body : new.body ≡ record b.body { payload = new.body.payload }
  pub metadata : IsMetadata b.body.kind new.metadata
  pub kept : Kept b new
  pub front : (k : ℕ) → Front (parts sets) b (worn k new.metadata (record b { body = new.body }))

-- an object that stays as it is
worn_itself : (b : ObjectState) → IsMetadata b.body.kind b.metadata → (k : ℕ) → worn k b.metadata b ≡ b
worn_itself b fits zero = refl
worn_itself b fits (suc zero) = refl
worn_itself b fits (suc (suc zero)) = ap (λ (p : Part). record b { metadata = record b.metadata { acl = record b.metadata.acl { access = p } } }) (mode_itself b.body.kind b.metadata fits)
worn_itself b fits (suc (suc (suc zero))) = refl
worn_itself b fits (suc (suc (suc (suc zero)))) = refl
worn_itself b fits (suc (suc (suc (suc (suc k))))) = refl

set_none : (sets : List Operation) (b : ObjectState) → IsMetadata b.body.kind b.metadata → run sets (Some b) ≡ Some b → IsSet sets b
set_none sets b fits e = record {
  new = b;
  is = e;
  body = refl;
  metadata = fits;
  kept = Kept.stays refl refl;
  front = λ k. front_as (parts sets) b (worn k b.metadata b) b (worn_itself b fits k) (front_none (parts sets) b);
}

-- ---- bytes, owners and mode

plain_append : (xs ys : List Operation) → parts xs ≡ xs → parts ys ≡ ys → parts (xs ++ ys) ≡ xs ++ ys
plain_append xs ys e f = flat_map-append parts_of xs ys ∙ (λ i. e i ++ f i)

module _ (bytes owners mode : List Operation) (b : ObjectState) (fits : IsMetadata b.body.kind b.metadata) (one : BytesMade bytes b) (two : OwnersMade owners (with_payload one.payload b))
    (three : ModeMade mode (record b { body = record b.body { payload = one.payload }; metadata = record b.metadata { uid = two.uid; gid = two.gid } })) where
  abbrev all : List Operation
  all = bytes ++ (owners ++ mode)

  abbrev first : ObjectState
  first = with_payload one.payload b

  abbrev second : ObjectState
  second = record first { metadata = record b.metadata { uid = two.uid; gid = two.gid } }

  abbrev third : ObjectState
  third = record second { metadata = record second.metadata { special = three.special; acl = record b.metadata.acl { access = three.access } } }

  run_rest : run (owners ++ mode) (Some first) ≡ Some third
  run_rest = run-append owners mode (Some first) ∙ ap (λ (o : Option ObjectState). run mode o) two.is ∙ three.is

  run_all : run all (Some b) ≡ Some third
  run_all = run-append bytes (owners ++ mode) (Some b) ∙ ap (λ (o : Option ObjectState). run (owners ++ mode) o) one.is ∙ run_rest

  owners_fit : IsMetadata b.body.kind second.metadata
  owners_fit = record { owner = two.ids fits.owner; special = fits.special; acl = fits.acl; fits = fits.fits; attrs = fits.attrs; letters = fits.letters }

  third_fits : IsMetadata b.body.kind third.metadata
  third_fits = three.fits owners_fit

  plain_all : parts all ≡ all
  plain_all = plain_append bytes (owners ++ mode) one.plain (plain_append owners mode two.plain three.plain)

  front_bytes : Front all b first
  front_bytes = record { k = length bytes; is = ap (λ (ys : List Operation). run ys (Some b)) (take-append_seam bytes (owners ++ mode)) ∙ one.is }

  front_owners : Front all b second
  front_owners = record {
    k = length bytes + length owners;
    is = ap (λ (ys : List Operation). run ys (Some b)) (take-append-add bytes (owners ++ mode) (length owners) ∙ ap (λ (ys : List Operation). bytes ++ ys) (take-append_seam owners mode))
        ∙ run-append bytes owners (Some b) ∙ ap (λ (o : Option ObjectState). run owners o) one.is ∙ two.is;
  }

  front_mode : Front all b third
  front_mode = front_all all b third run_all

  -- owner and mode alone make all of it
  mode_gives : worn 2 third.metadata first ≡ third
  mode_gives =
      ap (λ (p : Part). record second { metadata = record second.metadata { special = three.special; acl = record b.metadata.acl { access = p } } })
      (mode_others b.body.kind third.metadata third_fits b.metadata.acl.access ∙ sym three.rest)

  fronts : (k : ℕ) → Front all b (worn k third.metadata first)
  fronts zero = front_bytes
  fronts (suc zero) = front_owners
  fronts (suc (suc zero)) = front_as all b (worn 2 third.metadata first) third mode_gives front_mode
  fronts (suc (suc (suc zero))) = front_mode
  fronts (suc (suc (suc (suc zero)))) = front_mode
  fronts (suc (suc (suc (suc (suc k))))) = front_mode

  set_several : IsSet all b
  set_several = record {
    new = third;
    is = run_all;
    body = refl;
    metadata = third_fits;
    kept = Kept.stays refl refl;
    front = λ k. subst (λ (ys : List Operation). Front ys b (worn k third.metadata first)) (sym plain_all) (fronts k);
  }

-- ---- entries of an ACL

module _ (guard : Guard) (line : AclLine) (how : How) (b : ObjectState) (fits : IsMetadata b.body.kind b.metadata) (real : admits guard Link ≡ false) (is : is_line line ≡ true) (e : admits guard b.body.kind ≡ true) where
  abbrev sets : List Operation
  sets = Apply guard (Entries line how) ∷ []

  abbrev given : ObjectState
  given = changed b.body.kind (Entries line how) b

  no_link : b.body.kind ≡ Link → ⊥
  no_link k = let wrong : true ≡ false = sym e ∙ ap (admits guard) k ∙ real in cc

  given_fits : IsMetadata b.body.kind given.metadata
  given_fits = record {
    owner = fits.owner;
    special = fits.special;
    acl = is_acl-acl_after b.metadata.acl line how (is_directory b.body.kind) fits.acl is;
    fits = fits_entries b.body.kind b.metadata.special b.metadata.acl line how no_link fits.fits;
    attrs = fits.attrs;
    letters = fits.letters;
  }

  run_given : run sets (Some b) ≡ Some given
  run_given = ap (λ s. Some (if s then given else b)) e

  -- the base entries alone
  abbrev with_base : ObjectState
  with_base = record b { metadata = record b.metadata { acl = record b.metadata.acl { access = part_after Add b.metadata.acl.access (filter is_base line.access) } } }

  base_given : changed b.body.kind (Entries (base_line line) Add) b ≡ with_base
  base_given =
      ap (λ (d : Option Part). record b { metadata = record b.metadata { acl = record { access = part_after Add b.metadata.acl.access (filter is_base line.access); default_part = d } } })
      (default_kept (is_directory b.body.kind) (part_after Add b.metadata.acl.access (filter is_base line.access)) b.metadata.acl.default_part)

  worn_base : worn 2 given.metadata b ≡ with_base
  worn_base =
      ap (λ (p : Part). record b { metadata = record b.metadata { acl = record b.metadata.acl { access = p } } })
      (mode_others b.body.kind given.metadata given_fits b.metadata.acl.access ∙ sym (base_first how line.access b.metadata.acl.access))

  base_none : list_any is_base line.access ≡ false → with_base ≡ b
  base_none none =
      let same = base-part_after how line.access none b.metadata.acl.access in
      ap (λ (p : Part). record b { metadata = record b.metadata { acl = record b.metadata.acl { access = p } } })
      (base_first how line.access b.metadata.acl.access ∙ (λ i. record b.metadata.acl.access { owner = (same i).owner; group = (same i).group; other = (same i).other }))

  front_base : Front (parts sets) b with_base
  front_base = by (list_any is_base line.access) refl
    where
      by : (s : Bool) → list_any is_base line.access ≡ s → Front ((if s then Apply guard (Entries (base_line line) Add) ∷ Apply guard (Entries line how) ∷ [] else Apply guard (Entries line how) ∷ []) ++ []) b with_base
      by true some = record { k = 1; is = ap (λ s. Some (if s then changed b.body.kind (Entries (base_line line) Add) b else b)) e ∙ ap Some base_given }
      by false none = front_as (Apply guard (Entries line how) ∷ []) b with_base b (base_none none) (front_none (Apply guard (Entries line how) ∷ []) b)

  front_given : Front (parts sets) b given
  front_given = front_all (parts sets) b given (run-parts sets (Some b) ∙ run_given)

  entry_fronts : (k : ℕ) → Front (parts sets) b (worn k given.metadata b)
  entry_fronts zero = front_none (parts sets) b
  entry_fronts (suc zero) = front_none (parts sets) b
  entry_fronts (suc (suc zero)) = front_as (parts sets) b (worn 2 given.metadata b) with_base worn_base front_base
  entry_fronts (suc (suc (suc zero))) = front_given
  entry_fronts (suc (suc (suc (suc zero)))) = front_given
  entry_fronts (suc (suc (suc (suc (suc k))))) = front_given

  set_entries : IsSet sets b
  set_entries = record { new = given; is = run_given; body = refl; metadata = given_fits; kept = Kept.stays refl refl; front = entry_fronts }

-- ---- extended attributes

module _ (guard : Guard) (attrs : List Attr) (b : ObjectState) (fits : IsMetadata b.body.kind b.metadata) where
  abbrev attr_sets : List Operation
  attr_sets = Apply guard (Attrs attrs) ∷ []

  abbrev attred : ObjectState
  attred = record b { metadata = record b.metadata { attrs = put_attrs attrs b.metadata.attrs } }

  module _ (attred_fits : IsMetadata b.body.kind attred.metadata) (run_attred : run attr_sets (Some b) ≡ Some attred) where
    attr_fronts : (k : ℕ) → Front attr_sets b (worn k attred.metadata b)
    attr_fronts zero = front_none attr_sets b
    attr_fronts (suc zero) = front_none attr_sets b
    attr_fronts (suc (suc zero)) = front_as attr_sets b (worn 2 attred.metadata b) b (worn_itself b fits 2) (front_none attr_sets b)
    attr_fronts (suc (suc (suc zero))) = front_none attr_sets b
    attr_fronts (suc (suc (suc (suc zero)))) = front_all attr_sets b attred run_attred
    attr_fronts (suc (suc (suc (suc (suc k))))) = front_all attr_sets b attred run_attred

    set_attrs : IsSet attr_sets b
    set_attrs = record { new = attred; is = run_attred; body = refl; metadata = attred_fits; kept = Kept.only refl; front = attr_fronts }

-- ---- letters

module _ (guard : Guard) (how : LetterHow) (letters : ℕ) (b : ObjectState) (fits : IsMetadata b.body.kind b.metadata) where
  abbrev letter_sets : List Operation
  letter_sets = Apply guard (Letters how letters) ∷ []

  abbrev lettered : ObjectState
  lettered = record b { metadata = record b.metadata { letters = letters_after how letters b.metadata.letters } }

  module _ (lettered_fits : IsMetadata b.body.kind lettered.metadata) (run_lettered : run letter_sets (Some b) ≡ Some lettered) where
    letter_fronts : (k : ℕ) → Front letter_sets b (worn k lettered.metadata b)
    letter_fronts zero = front_none letter_sets b
    letter_fronts (suc zero) = front_none letter_sets b
    letter_fronts (suc (suc zero)) = front_as letter_sets b (worn 2 lettered.metadata b) b (worn_itself b fits 2) (front_none letter_sets b)
    letter_fronts (suc (suc (suc zero))) = front_none letter_sets b
    letter_fronts (suc (suc (suc (suc zero)))) = front_none letter_sets b
    letter_fronts (suc (suc (suc (suc (suc k))))) = front_all letter_sets b lettered run_lettered

    set_letters : IsSet letter_sets b
    set_letters = record { new = lettered; is = run_lettered; body = refl; metadata = lettered_fits; kept = Kept.only refl; front = letter_fronts }

-- ---- all of them

set_alone : (sets : List Operation) → AtMostOne SetsOther sets → (b : ObjectState) → IsMetadata b.body.kind b.metadata → IsSet sets b
set_alone [] h b fits = set_none [] b fits refl
set_alone (Apply guard (Entries line how) ∷ []) h b fits = by (admits guard b.body.kind) refl
  where
    by : (s : Bool) → admits guard b.body.kind ≡ s → IsSet (Apply guard (Entries line how) ∷ []) b
    by true e = set_entries guard line how b fits h.0 h.1 e
    by false e = set_none (Apply guard (Entries line how) ∷ []) b fits (ap (λ s. Some (if s then changed b.body.kind (Entries line how) b else b)) e)
set_alone (Apply guard (Attrs attrs) ∷ []) h b fits = by (admits guard b.body.kind) (is_link b.body.kind) refl refl
  where
    by : (s t : Bool) → admits guard b.body.kind ≡ s → is_link b.body.kind ≡ t → IsSet (Apply guard (Attrs attrs) ∷ []) b
    by true true e f = set_none (Apply guard (Attrs attrs) ∷ []) b fits (λ i. Some (if e i then (if f i then b else record b { metadata = record b.metadata { attrs = put_attrs attrs b.metadata.attrs } }) else b))
    by true false e f = set_attrs guard attrs b fits
        (record { owner = fits.owner; special = fits.special; acl = fits.acl; fits = fits.fits; attrs = fits_attrs b.body.kind attrs b.metadata.attrs f h fits.attrs; letters = fits.letters })
        (λ i. Some (if e i then (if f i then b else record b { metadata = record b.metadata { attrs = put_attrs attrs b.metadata.attrs } }) else b))
    by false t e f = set_none (Apply guard (Attrs attrs) ∷ []) b fits (ap (λ s. Some (if s then changed b.body.kind (Attrs attrs) b else b)) e)
set_alone (Apply guard (Letters how letters) ∷ []) h b fits = by (admits guard b.body.kind) (carries_letters b.body.kind) refl refl
  where
    by : (s t : Bool) → admits guard b.body.kind ≡ s → carries_letters b.body.kind ≡ t → IsSet (Apply guard (Letters how letters) ∷ []) b
    by true true e f = set_letters guard how letters b fits
        (record { owner = fits.owner; special = fits.special; acl = fits.acl; fits = fits.fits; attrs = fits.attrs; letters = fits_letters b.body.kind how letters b.metadata.letters f h fits.letters })
        (λ i. Some (if e i then (if f i then record b { metadata = record b.metadata { letters = letters_after how letters b.metadata.letters } } else b) else b))
    by true false e f = set_none (Apply guard (Letters how letters) ∷ []) b fits (λ i. Some (if e i then (if f i then record b { metadata = record b.metadata { letters = letters_after how letters b.metadata.letters } } else b) else b))
    by false t e f = set_none (Apply guard (Letters how letters) ∷ []) b fits (ap (λ s. Some (if s then changed b.body.kind (Letters how letters) b else b)) e)
set_alone (x ∷ []) h b fits = absurd h
set_alone (x ∷ y ∷ xs) h b fits = absurd h

pub set_of : (sets : List Operation) → AreSets sets → (b : ObjectState) → IsMetadata b.body.kind b.metadata → IsSet sets b
set_of all_sets (AreSets.several bytes owners mode e one two three) b fits =
    let made = bytes_made bytes one b in
    let owned = owners_made owners two (with_payload made.payload b) in
    subst (λ (ys : List Operation). IsSet ys b) (sym e)
    (set_several bytes owners mode b fits made owned (mode_made mode three (record b { body = record b.body { payload = made.payload }; metadata = record b.metadata { uid = owned.uid; gid = owned.gid } })))
set_of all_sets (AreSets.alone h) b fits = set_alone all_sets h b fits

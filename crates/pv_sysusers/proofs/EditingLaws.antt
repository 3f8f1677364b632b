-- Laws of the edits of account files: they are of different files, and each can be carried out where the files can be used.
use Rattle.std.specs.Prelude.{◌≡◌, ◌⊎◌, ℕ, Bool, true, false, cond, List, [], ◌∷◌, ◌++◌, Option, Some, None, unwrap_or}
use Rattle.std.proofs.Common.{refl, sym, ap, subst, ◌∙◌, inl, inr, lit≤, append_assoc}
use Rattle.std.specs.List.{AllByRecursion}
use Rattle.std.specs.Option.{option_map_or}
use Rattle.pv_path.specs.Names.{same_bytes}
use Rattle.pv_path.specs.Paths.{Path}
use Rattle.pv_steps.specs.declared.node.Kind.{Kind}
use Rattle.pv_steps.specs.declared.node.Kind.TheVariants.{Directory, File}
use Rattle.pv_steps.specs.declared.object.Object.{Object}
use Rattle.pv_steps.specs.declared.why.Why.{Why}
use Rattle.pv_steps.specs.Objects.{AclFits, AttrsFit, LettersFit}
use Rattle.pv_steps.specs.Refusal.{refusal}
use Rattle.pv_steps.specs.Trees.{Places, kind_of, IsTreeIn}
use Rattle.pv_walk.specs.SettingMetadata.{IsMetadata}
use Rattle.pv_walk.specs.Nodes.{object_state_of}
use Rattle.pv_sysusers.specs.declared.planned.Texts.{Texts}
use Rattle.pv_sysusers.specs.declared.edit.Edit.{Edit}
use Rattle.pv_sysusers.specs.Edits.{AreEdits, IsBeside, IsEdit}
use Rattle.pv_layers.specs.Places.{group_path, passwd_path}
use Rattle.pv_sysusers.specs.FileWriting.{IsEditOf, account_paths, gshadow_path, shadow_path}
use Rattle.pv_sysusers.specs.Accounted.{IsUsable, metadata_at, edit_at, edit_to, edits_by, edits_to, plain_metadata, text_at, unusable_by, unusable_text, unusable_texts}
use Rattle.std.specs.Prelude.{Result, Ok, Err}

-- ---- files that can be used

nil_parts : {A : Type 0} (xs ys : List A) → xs ++ ys ≡ [] → (xs ≡ []) × (ys ≡ [])
nil_parts [] ys e = (refl, e)
nil_parts (x ∷ xs) ys e = cc

pub record IsWell (t : Places) (path : Path) : Type 0 where
  pub unrefused : refusal t path 0 ≡ None
  pub usable : IsUsable t path

well_at : (t : Places) (path : Path) → unusable_text t path ≡ [] → IsWell t path
well_at t path e = by (refusal t path 0) refl
  where
    kinds : (k : Option Kind) → kind_of (t path) ≡ k → unusable_by path None k ≡ [] → IsUsable t path
    kinds None is h = inl is
    kinds (Some File) is h = inr is
    kinds (Some Directory) is h = cc
    kinds (Some Kind.Link) is h = cc
    kinds (Some Kind.Fifo) is h = cc
    kinds (Some Kind.CharDevice) is h = cc
    kinds (Some Kind.BlockDevice) is h = cc

    by : (r : Option (ℕ × Why)) → refusal t path 0 ≡ r → IsWell t path
    by None is = record { unrefused = is; usable = kinds (kind_of (t path)) refl (sym (ap (λ r. unusable_by path r (kind_of (t path))) is) ∙ e) }
    by (Some place) is = absurd (let no : unusable_by path (Some place) (kind_of (t path)) ≡ [] = sym (ap (λ r. unusable_by path r (kind_of (t path))) is) ∙ e in cc)

pub all_well : (t : Places) → unusable_texts t ≡ [] → AllByRecursion (IsWell t) account_paths
all_well t e =
    let four = nil_parts ((unusable_text t group_path ++ unusable_text t gshadow_path) ++ unusable_text t shadow_path) (unusable_text t passwd_path) e in
    let three = nil_parts (unusable_text t group_path ++ unusable_text t gshadow_path) (unusable_text t shadow_path) four.0 in
    let two = nil_parts (unusable_text t group_path) (unusable_text t gshadow_path) three.0 in
    (well_at t group_path two.0, (well_at t gshadow_path two.1, (well_at t shadow_path three.1, (well_at t passwd_path four.1, tt))))

pub all_usable : (t : Places) → unusable_texts t ≡ [] → AllByRecursion (IsUsable t) account_paths
all_usable t e = let w = all_well t e in (w.0.usable, (w.1.0.usable, (w.1.1.0.usable, (w.1.1.1.0.usable, tt))))

-- ---- what a file is to have

module _ (t : Places) (tree : IsTreeIn t) where
  plain_fits : (mode : ℕ) → (mode ≡ 420) ⊎ (mode ≡ 0) → IsMetadata File (plain_metadata mode)
  plain_fits mode (inl e) = subst (λ m. IsMetadata File (plain_metadata m)) (sym e) (record { owner = (lit≤ tt, lit≤ tt); special = lit≤ tt; acl = refl; fits = refl; attrs = refl; letters = lit≤ tt })
  plain_fits mode (inr e) = subst (λ m. IsMetadata File (plain_metadata m)) (sym e) (record { owner = (lit≤ tt, lit≤ tt); special = lit≤ tt; acl = refl; fits = refl; attrs = refl; letters = lit≤ tt })

  metadata_fits : (path : Path) (mode : ℕ) → IsUsable t path → (mode ≡ 420) ⊎ (mode ≡ 0) → IsMetadata File (metadata_at t path mode)
  metadata_fits path mode usable plain = by (t path) refl usable
    where
      some : (o : Object) → kind_of (Some o) ≡ Some File → o.node.kind ≡ File
      some o e = cc

      by : (o : Option Object) → t path ≡ o → (kind_of (t path) ≡ None) ⊎ (kind_of (t path) ≡ Some File) → IsMetadata File (metadata_at t path mode)
      by None is u = subst (λ o. IsMetadata File (option_map_or (λ (x : Object). (object_state_of x).metadata) o (plain_metadata mode))) (sym is) (plain_fits mode plain)
      by (Some x) is (inl none) = absurd (let wrong : Some x.node.kind ≡ None = sym (ap kind_of is) ∙ none in cc)
      by (Some x) is (inr file) =
          let o = tree.objects path x is in
          let kind : x.node.kind ≡ File = some x (sym (ap kind_of is) ∙ file) in
          subst (λ o. IsMetadata File (option_map_or (λ (x : Object). (object_state_of x).metadata) o (plain_metadata mode))) (sym is) (record {
            owner = o.owner;
            special = o.special;
            acl = o.acl;
            fits = subst (λ k. AclFits k x.node.special x.node.acl) kind o.kind_acl;
            attrs = subst (λ k. AttrsFit k x.node.attrs) kind o.attrs;
            letters = subst (λ k. LettersFit k x.node.letters) kind o.letters;
          })

-- ---- lists of edits

module _ (t : Places) where
  -- an edit or none before others
  abbrev before : Bool → Edit → List Edit → List Edit
  before b e es = cond {A = List Edit} b [] (e ∷ []) ++ es

  all_before : (P : Edit → Type 0) (b : Bool) (e : Edit) (es : List Edit) → P e → AllByRecursion P es → AllByRecursion P (before b e es)
  all_before P true e es p ps = ps
  all_before P false e es p ps = (p, ps)

  edits_before : (b : Bool) (e : Edit) (es : List Edit) → IsEdit e → AllByRecursion (IsBeside e) es → AreEdits es → AreEdits (before b e es)
  edits_before true e es is beside are = are
  edits_before false e es is beside are = (is, (beside, are))

-- ---- the edits that give new texts

module _ (t : Places) (tree : IsTreeIn t) (usable : AllByRecursion (IsUsable t) account_paths) where
  is_group : (text : List ℕ) → IsEditOf t (edit_to t group_path 420 text)
  is_group text = record { is = record { parent = refl; root = λ h. cc; plain = refl; short = refl; metadata = metadata_fits t tree group_path 420 usable.0 (inl refl) }; listed = refl; file = usable.0 }

  is_gshadow : (text : List ℕ) → IsEditOf t (edit_to t gshadow_path 0 text)
  is_gshadow text = record { is = record { parent = refl; root = λ h. cc; plain = refl; short = refl; metadata = metadata_fits t tree gshadow_path 0 usable.1.0 (inr refl) }; listed = refl; file = usable.1.0 }

  is_shadow : (text : List ℕ) → IsEditOf t (edit_to t shadow_path 0 text)
  is_shadow text = record { is = record { parent = refl; root = λ h. cc; plain = refl; short = refl; metadata = metadata_fits t tree shadow_path 0 usable.1.1.0 (inr refl) }; listed = refl; file = usable.1.1.0 }

  is_passwd : (text : List ℕ) → IsEditOf t (edit_to t passwd_path 420 text)
  is_passwd text = record { is = record { parent = refl; root = λ h. cc; plain = refl; short = refl; metadata = metadata_fits t tree passwd_path 420 usable.1.1.1.0 (inl refl) }; listed = refl; file = usable.1.1.1.0 }

  module _ (texts : Texts) where
    abbrev group : Edit
    group = edit_to t group_path 420 texts.group

    abbrev shadow : Edit
    shadow = edit_to t shadow_path 0 texts.shadow

    abbrev passwd : Edit
    passwd = edit_to t passwd_path 420 texts.passwd

    abbrev changed_by : Path → List ℕ → Bool
    changed_by path text = same_bytes text (unwrap_or (text_at t path) [])

    abbrev last : List Edit
    last = edit_at t passwd_path 420 texts.passwd

    abbrev last_two : List Edit
    last_two = edit_at t shadow_path 0 texts.shadow ++ last

    abbrev last_three : Option (List ℕ) → List Edit
    last_three o = option_map_or (edit_at t gshadow_path 0) o [] ++ last_two

    all_last : (P : Edit → Type 0) → P passwd → AllByRecursion P last
    all_last P p = by (changed_by passwd_path texts.passwd)
      where
        by : (b : Bool) → AllByRecursion P (cond {A = List Edit} b [] (passwd ∷ []))
        by true = tt
        by false = (p, tt)

    are_last : AreEdits last
    are_last = by (changed_by passwd_path texts.passwd)
      where
        by : (b : Bool) → AreEdits (cond {A = List Edit} b [] (passwd ∷ []))
        by true = tt
        by false = ((is_passwd texts.passwd).is, (tt, tt))

    all_two : (P : Edit → Type 0) → P shadow → P passwd → AllByRecursion P last_two
    all_two P s p = all_before t P (changed_by shadow_path texts.shadow) shadow last s (all_last P p)

    are_two : AreEdits last_two
    are_two = edits_before t (changed_by shadow_path texts.shadow) shadow last (is_shadow texts.shadow).is
        (all_last (IsBeside shadow) (record { paths = refl; paths_back = refl; stages = refl; stages_back = refl; crossed = refl; crossed_back = refl })) are_last

    all_three : (P : Edit → Type 0) → ((text : List ℕ) → P (edit_to t gshadow_path 0 text)) → P shadow → P passwd → (o : Option (List ℕ)) → AllByRecursion P (last_three o)
    all_three P g s p None = all_two P s p
    all_three P g s p (Some text) = all_before t P (changed_by gshadow_path text) (edit_to t gshadow_path 0 text) last_two (g text) (all_two P s p)

    are_three : (o : Option (List ℕ)) → AreEdits (last_three o)
    are_three None = are_two
    are_three (Some text) = edits_before t (changed_by gshadow_path text) (edit_to t gshadow_path 0 text) last_two (is_gshadow text).is
        (all_two (IsBeside (edit_to t gshadow_path 0 text)) (record { paths = refl; paths_back = refl; stages = refl; stages_back = refl; crossed = refl; crossed_back = refl })
        (record { paths = refl; paths_back = refl; stages = refl; stages_back = refl; crossed = refl; crossed_back = refl })) are_two

    -- they are listed so
    listed : edits_to t texts ≡ edit_at t group_path 420 texts.group ++ last_three texts.gshadow
    listed =
        append_assoc (edit_at t group_path 420 texts.group ++ option_map_or (edit_at t gshadow_path 0) texts.gshadow []) (edit_at t shadow_path 0 texts.shadow) last
        ∙ append_assoc (edit_at t group_path 420 texts.group) (option_map_or (edit_at t gshadow_path 0) texts.gshadow []) last_two

    are_all : AreEdits (edit_at t group_path 420 texts.group ++ last_three texts.gshadow)
    are_all = edits_before t (changed_by group_path texts.group) group (last_three texts.gshadow) (is_group texts.group).is
        (all_three (IsBeside group) (λ text. record { paths = refl; paths_back = refl; stages = refl; stages_back = refl; crossed = refl; crossed_back = refl })
        (record { paths = refl; paths_back = refl; stages = refl; stages_back = refl; crossed = refl; crossed_back = refl })
        (record { paths = refl; paths_back = refl; stages = refl; stages_back = refl; crossed = refl; crossed_back = refl }) texts.gshadow) (are_three texts.gshadow)

    pub are_edits : AreEdits (edits_to t texts)
    are_edits = subst AreEdits (sym listed) are_all

    all_of : AllByRecursion (IsEditOf t) (edit_at t group_path 420 texts.group ++ last_three texts.gshadow)
    all_of = all_before t (IsEditOf t) (changed_by group_path texts.group) group (last_three texts.gshadow) (is_group texts.group)
        (all_three (IsEditOf t) is_gshadow (is_shadow texts.shadow) (is_passwd texts.passwd) texts.gshadow)

    pub edits_of : AllByRecursion (IsEditOf t) (edits_to t texts)
    edits_of = subst (AllByRecursion (IsEditOf t)) (sym listed) all_of

  pub are_by : (r : Result Texts (List ℕ)) → AreEdits (edits_by t r)
  are_by (Ok texts) = are_edits texts
  are_by (Err name) = tt

  pub of_by : (r : Result Texts (List ℕ)) → AllByRecursion (IsEditOf t) (edits_by t r)
  of_by (Ok texts) = edits_of texts
  of_by (Err name) = tt

-- What a line that copies sets at its path, and what later lines set there, may be set again if no line has a hazard.
use Rattle.std.specs.Prelude.{◌≡◌, ◌⊎◌, ◌-◌, ◌≤◌, Bool, true, false, cond, ◌&&◌, ◌||◌, List, [], ◌∷◌, ◌++◌, map, Option, Some, None}
use Rattle.std.proofs.Common.{refl, sym, ap, subst, ◌∙◌, arith, inl, inr}
use Rattle.std.specs.List.{list_any, list_all, AllByRecursion}
use Rattle.std.proofs.lemmas.Grind.{flat_map-append}
use Rattle.std.proofs.lemmas.List.Folds.{list_any-append, list_all-append}
use Rattle.std.proofs.lemmas.Bool.{false_from_ne_true, or_left, and_parts}
use Rattle.pv_path.specs.Paths.{has_names, Path, is_prefix}
use Rattle.pv_path.proofs.PathLaws.{same_path-refl}
use Rattle.pv_walk.specs.declared.object_state.ObjectState.{ObjectState}
use Rattle.pv_walk.specs.declared.object_state.Body.{Body}
use Rattle.pv_walk.specs.declared.operation.Change.{Change}
use Rattle.pv_walk.specs.declared.operation.Change.TheVariants.{Owner, Mode}
use Rattle.pv_walk.specs.declared.operation.Guard.TheVariants.{Every, NoLink}
use Rattle.pv_walk.specs.declared.operation.Operation.{Operation}
use Rattle.pv_walk.specs.declared.operation.Operation.TheVariants.{Apply}
use Rattle.pv_walk.specs.Dividing.{parts_of, parts}
use Rattle.pv_walk.specs.Nodes.{same_kind}
use Rattle.pv_walk.specs.Operations.{run}
use Rattle.pv_walk.specs.Reasons as reasons
use Rattle.pv_walk.specs.Reasons.{is_adjusting, is_append, is_masked, gives_base, has_append, has_mixed_mask}
use Rattle.pv_walk.proofs.Dividing.{repeatable-parts}
use Rattle.pv_lines.specs.declared.line.Line.{Line}
use Rattle.pv_lines.specs.declared.line.LineMode.{LineMode}
use Rattle.pv_lines.specs.declared.line.LinePath.{LinePath}
use Rattle.pv_lines.specs.Lines.{IsLine}
use Rattle.pv_walk.proofs.RemovalLaws.{zero_or_more}
use Rattle.pv_table.specs.declared.action.Copying.{Copying}
use Rattle.pv_table.specs.declared.action.Action.{Action}
use Rattle.pv_table.specs.declared.action.Action.TheVariants.{Copy, Idle}
use Rattle.pv_table.specs.declared.reason.Reason.TheVariants as reason
use Rattle.pv_table.specs.Active.{are_distinct, Listed}
use Rattle.pv_table.specs.Asked.{operations, operations_of}
use Rattle.pv_table.specs.ActionTable.{action_of, id_to_set, without_links, mode_to_set}
use Rattle.pv_table.specs.Reaching.{path_in, names, reaches}
use Rattle.pv_table.specs.Repeatable.{sets_of, has_masked_mode, HasReason, IsRepeatable}
use Rattle.pv_table.specs.Turns.{copied, topped_by}
use Rattle.pv_laws.proofs.CopyShapes.{topped_body}
use Rattle.pv_laws.proofs.Later.{IsAfter, after_adjusts}
use Rattle.pv_laws.proofs.Lines.{copy_literal}
use Rattle.pv_laws.proofs.Repeated.{asked_parts, listed_asked, unlisted, some_line, asked_sets, asked_reaches, slices_same}
use Rattle.pv_laws.proofs.Sets.{is_adjustment, IsAsked, asked, sets_adjust, sets_unmixed, sets_masked, adjustments_repeatable}
use Rattle.pv_laws.proofs.Sets as sets
use Rattle.pv_laws.proofs.Splits.{IsKnown, line_of}
use Rattle.pv_laws.proofs.Tops.{copied_by, top_again}
use Rattle.pv_path.proofs.Tests.{true_not_false}
use Rattle.pv_walk.proofs.Repeating.{same_kind-refl}

-- ---- what a line that copies sets

pub is_copied_by : (line : Line) (copying : Copying) → action_of line ≡ Copy copying → copying ≡ copied_by line
is_copied_by line copying e = by (asked line)
  where
    same : Copy copying ≡ Copy (copied_by line) → copying ≡ copied_by line
    same k = cc

    other : (d : Action) → action_of line ≡ d → copied d ≡ None → copying ≡ copied_by line
    other d f none = absurd (let no : Some copying.source ≡ None = sym (ap copied e) ∙ ap copied f ∙ none in cc)

    by : IsAsked line (action_of line) → copying ≡ copied_by line
    by (sets.makes what file f) = other _ f refl
    by (sets.copies f) = same (sym e ∙ f)
    by (sets.adjusts deep wanted guard f) = other _ f refl
    by (sets.writes f) = other _ f refl
    by (sets.sets deep f) = other _ f refl
    by (sets.idle f) = other Idle f refl

one_part : (mode : Option LineMode) → parts (mode_to_set mode (without_links Every)) ≡ mode_to_set mode (without_links Every)
one_part None = refl
one_part (Some mode) = elim mode.new_only as (λ b. parts (cond b [] (Apply NoLink (Mode mode.value mode.masked) ∷ [])) ≡ cond b [] (Apply NoLink (Mode mode.value mode.masked) ∷ [])) [ true ↦ refl | false ↦ refl ]

-- each of its settings is one part
pub sets_in_parts : (line : Line) (copying : Copying) → action_of line ≡ Copy copying → parts copying.sets ≡ copying.sets
sets_in_parts line copying e = subst (λ (c : Copying). parts c.sets ≡ c.sets) (sym (is_copied_by line copying e)) (ap (λ xs. Apply Every (Owner (id_to_set line.user) (id_to_set line.group)) ∷ xs) (one_part line.mode))

-- they change nothing of its own copy
pub own_again : (line : Line) (copying : Copying) (b : ObjectState) → action_of line ≡ Copy copying → run copying.sets (Some (topped_by copying b)) ≡ Some (topped_by copying b)
own_again line copying b e = subst (λ (c : Copying). run c.sets (Some (topped_by c b)) ≡ Some (topped_by c b)) (sym (is_copied_by line copying e)) (top_again line b)

pub top_kind : (copying : Copying) (b : ObjectState) → same_kind b.body.kind (topped_by copying b).body.kind ≡ true
top_kind copying b = ap (λ (body : Body). same_kind b.body.kind body.kind) (topped_body copying b) ∙ same_kind-refl b.body.kind

-- ---- adjustments of lines of which none has a hazard

module _ (lines : List Line) (are : AllByRecursion IsLine lines) (distinct : are_distinct lines ≡ true) (repeatable : IsRepeatable lines) where
  abbrev Known : Listed → Type 0
  Known l = IsKnown lines are distinct repeatable l

  -- a line that sets something that passes a test, and reaches a path
  pub record IsSetter (q : Path) (test : Change → Bool) : Type 0 where
    pub one : Listed
    pub known : Known one
    pub sets_it : list_any (is_adjusting test) (sets_of (action_of one.1)) ≡ true
    pub reached : reaches one.1 q ≡ true

  module _ (q : Path) (named : has_names q ≡ true) (xs : List Operation) (adjust : list_all is_adjustment xs ≡ true) (setters : (test : Change → Bool) → list_any (is_adjusting test) xs ≡ true → IsSetter q test) where
    append_none : has_append xs ≡ false
    append_none = false_from_ne_true _ (λ h. (let found = setters is_append h in repeatable found.one.0 reason.Append (HasReason.append found.one.1 found.known.at found.sets_it)))

    mixed_none : list_any (is_adjusting is_masked) xs ≡ true → list_any (is_adjusting gives_base) xs ≡ true → ⊥
    mixed_none m g = by (zero_or_more (a.one.0 - b.one.0)) (zero_or_more (b.one.0 - a.one.0))
      where
        a : IsSetter q is_masked
        a = setters is_masked m

        b : IsSetter q gives_base
        b = setters gives_base g

        masked : has_masked_mode a.one.1 ≡ true
        masked = sets_masked a.one.1 (action_of a.one.1) (asked a.one.1) a.sets_it

        both_in_one : a.one.1 ≡ b.one.1 → ⊥
        both_in_one e = true_not_false (has_mixed_mask (sets_of (action_of a.one.1)))
            (ap (λ t. t && list_any (is_adjusting gives_base) (sets_of (action_of a.one.1))) a.sets_it ∙ ap (λ (l : Line). list_any (is_adjusting gives_base) (sets_of (action_of l))) e ∙ b.sets_it)
            (sets_unmixed a.one.1 (action_of a.one.1) (asked a.one.1))

        by : (a.one.0 - b.one.0 ≡ 0) ⊎ (1 ≤ a.one.0 - b.one.0) → (b.one.0 - a.one.0 ≡ 0) ⊎ (1 ≤ b.one.0 - a.one.0) → ⊥
        by (inl z) (inl y) = both_in_one (slices_same lines are distinct repeatable q a.one.0 b.one.0 a.one.1 b.one.1 (omega (arith, z, y)) a.known.at b.known.at)
        by (inr z) y = repeatable a.one.0 reason.Mask (HasReason.mask a.one.1 b.one.1 b.one.0 q a.known.at b.known.at (omega (arith, z)) named (b.reached, a.reached) (inr (b.sets_it, masked)))
        by (inl z) (inr y) = repeatable b.one.0 reason.Mask (HasReason.mask b.one.1 a.one.1 a.one.0 q b.known.at a.known.at (omega (arith, y)) named (a.reached, b.reached) (inl (masked, b.sets_it)))

    pub setters_repeatable : reasons.IsRepeatable xs
    setters_repeatable = adjustments_repeatable xs adjust append_none (false_from_ne_true _ (λ h. (let two = and_parts _ _ h in mixed_none two.0 two.1)))

  module _ (p : Path) (after : List Listed) (known : AllByRecursion Known after) (later : AllByRecursion (λ (l : Listed). IsAfter p l.1) after) where
    module _ (q : Path) (under : is_prefix p q ≡ true) where
      asked_adjust : (ls : List Listed) → AllByRecursion (λ (l : Listed). IsAfter p l.1) ls → list_all is_adjustment (listed_asked q ls) ≡ true
      asked_adjust [] h = refl
      asked_adjust (l ∷ ls) h =
          list_all-append is_adjustment (operations l.1 q) (listed_asked q ls)
          ∙ ap (λ b. b && list_all is_adjustment (listed_asked q ls)) (after_adjusts p l.1 q under h.0)
          ∙ asked_adjust ls h.1

      asked_setters : (test : Change → Bool) → list_any (is_adjusting test) (listed_asked q after) ≡ true → IsSetter q test
      asked_setters test h =
          let found = some_line q Known (is_adjusting test) after known h in
          record { one = found.0; known = found.1; sets_it = asked_sets test found.0.1 q found.2; reached = asked_reaches test found.0.1 found.1.is q found.2 }

      in_parts : operations_of (map line_of after) q ≡ parts (listed_asked q after)
      in_parts = asked_parts (map line_of after) q ∙ ap parts (unlisted q after)

      -- what they ask for at and below the path
      pub later_repeatable : has_names q ≡ true → reasons.IsRepeatable (operations_of (map line_of after) q)
      later_repeatable named = subst reasons.IsRepeatable (sym in_parts) (repeatable-parts (listed_asked q after) (setters_repeatable q named (listed_asked q after) (asked_adjust after later) asked_setters))

    -- so with what the line that copies sets itself
    module _ (copier : Listed) (is : Known copier) (copying : Copying) (e : action_of copier.1 ≡ Copy copying) (at : path_in copier.1.path ≡ p) (q : Path) (here : q ≡ p) (under : is_prefix p q ≡ true) where
      abbrev own : List Operation
      own = copying.sets

      own_adjust : list_all is_adjustment own ≡ true
      own_adjust = subst (λ d. list_all is_adjustment (sets_of d) ≡ true) e (sets_adjust copier.1 (action_of copier.1) (asked copier.1))

      own_reaches : reaches copier.1 q ≡ true
      own_reaches = or_left (names copier.1 q) _ (ap (names copier.1) (here ∙ sym at) ∙ ap (λ (path : LinePath). names (record copier.1 { path = path }) (path_in copier.1.path)) (copy_literal copier.1 is.is copying e) ∙ same_path-refl (path_in copier.1.path))

      both_setters : (test : Change → Bool) → list_any (is_adjusting test) (own ++ listed_asked q after) ≡ true → IsSetter q test
      both_setters test h = by (list_any (is_adjusting test) own) refl (sym (list_any-append (is_adjusting test) own (listed_asked q after)) ∙ h)
        where
          by : (c : Bool) → list_any (is_adjusting test) own ≡ c → (c || list_any (is_adjusting test) (listed_asked q after)) ≡ true → IsSetter q test
          by true f g = record { one = copier; known = is; sets_it = ap (λ d. list_any (is_adjusting test) (sets_of d)) e ∙ f; reached = own_reaches }
          by false f g = asked_setters q under test g

      both_adjust : list_all is_adjustment (own ++ listed_asked q after) ≡ true
      both_adjust =
          list_all-append is_adjustment own (listed_asked q after) ∙ ap (λ b. b && list_all is_adjustment (listed_asked q after)) own_adjust ∙ asked_adjust q under after later

      pub own_repeatable : has_names q ≡ true → reasons.IsRepeatable (parts own)
      own_repeatable named = repeatable-parts own (setters_repeatable q named own own_adjust (λ test h. record { one = copier; known = is; sets_it = ap (λ d. list_any (is_adjusting test) (sets_of d)) e ∙ h; reached = own_reaches }))

      pub both_repeatable : has_names q ≡ true → reasons.IsRepeatable (own ++ operations_of (map line_of after) q)
      both_repeatable named = subst reasons.IsRepeatable
          (flat_map-append parts_of own (listed_asked q after) ∙ ap (λ xs. xs ++ parts (listed_asked q after)) (sets_in_parts copier.1 copying e) ∙ ap (λ xs. own ++ xs) (sym (in_parts q under)))
          (repeatable-parts (own ++ listed_asked q after) (setters_repeatable q named (own ++ listed_asked q after) both_adjust both_setters))

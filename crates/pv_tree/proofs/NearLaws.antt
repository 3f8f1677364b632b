-- The directory in which the last step was done.
use Rattle.std.proofs.Common.{◌≡◌, ◌≢◌, ◌⊎◌, inl, inr, ℕ, List, [], ◌∷◌, ◌++◌, Option, Some, None, Result, Ok, Err, OnOk, OnErr, sym, ap, subst, ◌∙◌, ◌≤◌, length, drop}
use Rattle.std.proofs.lemmas.List.{take-append-drop, take_all}
use Rattle.pv_path.specs.Paths.{Path, parent_of}
use Rattle.pv_path.proofs.PathLaws.{prefix_parts, parent_of-is_prefix}
use Rattle.pv_steps.specs.declared.node.Kind.TheVariants.{Directory, File}
use Rattle.pv_steps.specs.declared.step.Step.{Step}
use Rattle.pv_steps.specs.declared.step.Step.TheVariants.{MakeDir, MakeFile, MakeFifo, MakeDevice, MakeLink, Write, SetMode, SetOwner, SetAcl, SetAttrs, SetLetters, SetStamps, Rename, Unlink, RemoveDir}
use Rattle.pv_steps.specs.Steps.{Can, HasRoom}
use Rattle.pv_steps.specs.Trees.{Places, IsPresentIn, IsTreeIn}
use Rattle.pv_steps.proofs.TreeLaws.{present_of_kind, present_above}
use Rattle.pv_tree.specs.declared.slot.Slot.{Slot}
use Rattle.pv_tree.specs.Edges.{Edges, led}
use Rattle.pv_tree.specs.Growth.{IsShared}
use Rattle.pv_tree.specs.Near.{IsNear, place_of}
use Rattle.pv_tree.specs.Slots.{child_in, number_in, places_in, IsForest}
use Rattle.pv_tree.proofs.ForestLaws.{number_absent}
use Rattle.pv_tree.proofs.SlotLaws.{slice_get_last}

-- what follows in a path after all names of another one
pub shared_all : (p q : Path) (n : ℕ) → IsShared p q n → length p ≤ n → q ≡ p ++ drop n q
shared_all p q n shared all = sym (take-append-drop n q) ∙ ap (λ (r : Path). r ++ drop n q) (sym shared.same ∙ take_all n p all)

-- ---- before a step

present_parent : (t : Places) (path : Path) → IsTreeIn t → IsPresentIn t path → IsPresentIn t (parent_of path)
present_parent t path tree h =
    let parts = prefix_parts (parent_of path) path (parent_of-is_prefix path) in
    present_above t tree (parent_of path) parts.0 (subst (IsPresentIn t) parts.1 h)

room_parent : (t : Places) (path : Path) → HasRoom t path → IsPresentIn t (parent_of path)
room_parent t path h = present_of_kind t (parent_of path) Directory h.1

-- the directory of a step that can be done is present
pub can_parent : (t : Places) (step : Step) → IsTreeIn t → Can t step → IsPresentIn t (parent_of (place_of step))
can_parent t (MakeDir path) tree can = room_parent t path can
can_parent t (MakeFile path) tree can = room_parent t path can
can_parent t (MakeFifo path) tree can = room_parent t path can
can_parent t (MakeDevice path block major minor) tree can = room_parent t path can
can_parent t (MakeLink path target) tree can = room_parent t path can.0
can_parent t (Write path content) tree can = present_parent t path tree (present_of_kind t path File can)
can_parent t (SetMode path mode) tree can = present_parent t path tree can.0.0
can_parent t (SetOwner path uid gid) tree can = present_parent t path tree can.0
can_parent t (SetAcl path acl) tree can = present_parent t path tree can.0.0
can_parent t (SetAttrs path attrs) tree can = present_parent t path tree can.0.0
can_parent t (SetLetters path letters) tree (inl file) = present_parent t path tree (present_of_kind t path File file)
can_parent t (SetLetters path letters) tree (inr directory) = present_parent t path tree (present_of_kind t path Directory directory)
can_parent t (SetStamps path access modify) tree can = present_parent t path tree can
can_parent t (Rename from to) tree can = present_of_kind t (parent_of to) Directory can.parent
can_parent t (Unlink path) tree can = present_parent t path tree can.0
can_parent t (RemoveDir path) tree can = present_parent t path tree (present_of_kind t path Directory can.0)

-- ---- after it

pub near_last : (slots : List Slot) (steps all : List Step) (step : Step) (k : ℕ) → all ≡ steps ++ step ∷ [] → number_in slots (parent_of (place_of step)) ≡ Some k → IsNear slots all k
near_last slots steps all step k is at last e =
    let both : Some last ≡ Some step = sym e ∙ slice_get_last steps all step is in
    let same : last ≡ step = cc in
    ap (λ (s : Step). number_in slots (parent_of (place_of s))) same ∙ at

-- ---- slots that change without a step

pub near_edges : (slots new : List Slot) (steps : List Step) (k : ℕ) → child_in new ≡ child_in slots → IsNear slots steps k → IsNear new steps k
near_edges slots new steps k edges near step last = ap (λ (g : Edges). led g 0 (parent_of (place_of step))) edges ∙ near step last

pub near_added : {A E : Type 0} → (r : Result A E) (slots new : List Slot) (steps : List Step) (k : ℕ) (path : Path) → IsForest slots → places_in slots path ≡ None
    → OnOk r ((q : Path) → q ≢ path → number_in new q ≡ number_in slots q) → OnErr r (new ≡ slots) → IsNear slots steps k → IsNear new steps k
near_added (Ok x) slots new steps k path forest absent others err near step last =
    others (parent_of (place_of step)) (λ is. (let no : None ≡ Some k = sym (ap (number_in slots) is ∙ number_absent slots forest path absent) ∙ near step last in cc)) ∙ near step last
near_added (Err e) slots new steps k path forest absent others err near step last = ap (λ (v : List Slot). number_in v (parent_of (place_of step))) err ∙ near step last

-- Laws of setting metadata, for the crates above.
use Rattle.std.specs.Prelude.{option_map}
use Rattle.std.proofs.Common.{ap, ◌∙◌}
use Rattle.pv_path.specs.Paths.{Path, same_path}
use Rattle.pv_steps.specs.Objects.{object_state}
use Rattle.pv_steps.specs.Trees.{Files, places}
use Rattle.pv_walk.specs.declared.object_state.Metadata.{Metadata}
use Rattle.pv_walk.specs.Edits.{SameOutside}
use Rattle.pv_walk.specs.SettingMetadata.{with_first_changes, SettingMetadata}
use Rattle.pv_walk.proofs.EditLaws.{on_at-else}

-- timestamps aside, setting metadata changes nothing but the object at its path, while it works
pub outside_setting_metadata : (path : Path) (new : Metadata) (t u : Files) → SettingMetadata path new t u → SameOutside (same_path path) t u
outside_setting_metadata path new t u h = λ q e. h.1 q ∙ ap (option_map object_state) (on_at-else path q (with_first_changes h.0 new) (places t) e)

-- What each line of a configuration is that the definition reads.
use Rattle.std.specs.Prelude.{◌≡◌, ◌≢◌, ℕ, ◌+◌, List, [], ◌∷◌, ◌++◌, Some, None, Result, Ok, Err, refl}
use Rattle.std.specs.Result.{result_ok}
use Rattle.std.proofs.Common.{ap, sym, ◌∙◌}
use Rattle.pv_lines.specs.ArgumentField.{Lookup}
use Rattle.pv_lines.specs.FaultNames.{name_of}
use Rattle.pv_lines.specs.Lines.{line_of}
use Rattle.pv_lines.specs.Faults.{Gives}
use Rattle.pv_lines.specs.declared.line_fault.LineFault.{LineFault}
use Rattle.pv_lines.specs.declared.line_fault.LineFault.TheVariants as fault
use Rattle.pv_lines.specs.declared.line.Line.{Line}
use Rattle.pv_steps.specs.Trees.{Files}
use Rattle.pv_text.specs.Facts.{Values}
use Rattle.pv_text.specs.GivenMessages.{message_text_at}
use Rattle.pv_text.specs.declared.place.Place.{Place}
use Rattle.pv_text.specs.declared.tool.Tool.TheVariants.{Tmpfiles}
use Rattle.pv_read_config.specs.Configuration.{configured_by, content_at}
use Rattle.pv_read_config.specs.Known.{configured, lookup_in, moved_message, messages_by, tmpfiles_reader}
use Rattle.pv_layers.specs.Places.{group_path, passwd_path}

-- ---- one line

-- a fault that is not running out of memory is that of the line
fault_given : (f : LineFault) (read : Result Line LineFault) → Gives (Err f) read → f ≢ fault.Memory → read ≡ Err f
fault_given fault.Memory read given known = absurd (known refl)
fault_given f read given known = given

module _ (facts : Values) (lookup : Lookup) (place copy : Place) (text : List ℕ) (same : copy ≡ place) where
  at_place : (read : Result Line LineFault) → line_of facts lookup copy text ≡ read → line_of facts lookup place text ≡ read
  at_place read is = ap (λ (p : Place). line_of facts lookup p text) (sym same) ∙ is

  pub line_is_read : (line : Line) → line_of facts lookup copy text ≡ Ok line → Some line ≡ result_ok (line_of facts lookup place text)
  line_is_read line is = sym (ap result_ok (at_place (Ok line) is))

  pub line_is_said : (line : Line) (new_messages stated : List (List ℕ)) → line_of facts lookup copy text ≡ Ok line → stated ≡ new_messages ++ moved_message place line.moved → stated ≡ new_messages ++ messages_by place (line_of facts lookup place text)
  line_is_said line new_messages stated is all = all ∙ sym (ap (λ (r : Result Line LineFault). new_messages ++ messages_by place r) (at_place (Ok line) is))

  pub fault_is_read : (f : LineFault) → Gives (Err f) (line_of facts lookup copy text) → f ≢ fault.Memory → None ≡ result_ok (line_of facts lookup place text)
  fault_is_read f given known = sym (ap result_ok (at_place (Err f) (fault_given f (line_of facts lookup copy text) given known)))

  pub fault_is_said : (f : LineFault) (new_messages stated : List (List ℕ)) → Gives (Err f) (line_of facts lookup copy text) → f ≢ fault.Memory → stated ≡ new_messages ++ message_text_at place (name_of f) ∷ [] → stated ≡ new_messages ++ messages_by place (line_of facts lookup place text)
  fault_is_said f new_messages stated given known all =
      all ∙ sym (ap (λ (r : Result Line LineFault). new_messages ++ messages_by place r) (at_place (Err f) (fault_given f (line_of facts lookup copy text) given known)))

-- what is read by the texts of the account files is what the tree gives
pub configured_same : (files : Files) (facts : Values) (passwd group : List ℕ) (words : List (List ℕ)) → passwd ≡ content_at files passwd_path → group ≡ content_at files group_path
    → configured_by files (tmpfiles_reader (record { facts = facts; lookup = lookup_in passwd group })) Tmpfiles words ≡ configured files facts words
configured_same files facts passwd group words users groups =
    ap (λ (p : List ℕ). configured_by files (tmpfiles_reader (record { facts = facts; lookup = lookup_in p group })) Tmpfiles words) users
    ∙ ap (λ (g : List ℕ). configured_by files (tmpfiles_reader (record { facts = facts; lookup = lookup_in (content_at files passwd_path) g })) Tmpfiles words) groups

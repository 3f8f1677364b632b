-- What each line of systemd-sysusers is read as.
use Rattle.std.specs.Prelude.{◌≡◌, ◌≢◌, ℕ, List, [], ◌∷◌, ◌++◌, None, Result, Err, refl}
use Rattle.std.specs.Result.{result_ok}
use Rattle.std.proofs.Common.{ap, sym, ◌∙◌}
use Rattle.pv_requests.specs.Faults.{Gives, name_of}
use Rattle.pv_requests.specs.Requests.{request_of}
use Rattle.pv_requests.specs.declared.request_fault.RequestFault.{RequestFault}
use Rattle.pv_requests.specs.declared.request_fault.RequestFault.TheVariants as fault
use Rattle.pv_requests.specs.declared.request.Request.{Request}
use Rattle.pv_text.specs.Facts.{Values}
use Rattle.pv_text.specs.GivenMessages.{message_text_at}
use Rattle.pv_text.specs.declared.place.Place.{Place}
use Rattle.pv_read_config.specs.Requested.{messages_for_request}

-- a fault that is not running out of memory is that of the line
fault_given : (f : RequestFault) (read : Result Request RequestFault) → Gives (Err f) read → f ≢ fault.Memory → read ≡ Err f
fault_given fault.Memory read given known = absurd (known refl)
fault_given f read given known = given

module _ (facts : Values) (place copy : Place) (text : List ℕ) (same : copy ≡ place) where
  at_place : (read : Result Request RequestFault) → request_of facts copy text ≡ read → request_of facts place text ≡ read
  at_place read is = ap (λ (p : Place). request_of facts p text) (sym same) ∙ is

  pub fault_is_read : (f : RequestFault) → Gives (Err f) (request_of facts copy text) → f ≢ fault.Memory → None ≡ result_ok (request_of facts place text)
  fault_is_read f given known = sym (ap result_ok (at_place (Err f) (fault_given f (request_of facts copy text) given known)))

  pub fault_is_said : (f : RequestFault) (new_messages stated : List (List ℕ)) → Gives (Err f) (request_of facts copy text) → f ≢ fault.Memory → stated ≡ new_messages ++ message_text_at place (name_of f) ∷ [] → stated ≡ new_messages ++ messages_for_request place (request_of facts place text)
  fault_is_said f new_messages stated given known all =
      all ∙ sym (ap (λ (r : Result Request RequestFault). new_messages ++ messages_for_request place r) (at_place (Err f) (fault_given f (request_of facts copy text) given known)))

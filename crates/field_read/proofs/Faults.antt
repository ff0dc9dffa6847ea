-- How the fault of a step becomes the fault of the whole.
use Rattle.std.proofs.Common.{◌≡◌}
use Rattle.std.specs.Prelude.{Result, Ok, Err}
use Rattle.std.specs.Result.{IsErrAnd}
use Rattle.feed_defs.specs.Rows.{Fault}
use Rattle.field_read.specs.declared.fault.ReadFault.{ReadFault}
use Rattle.field_read.specs.declared.fault.ReadFault.TheVariants.{Malformed, NoMemory}
use Rattle.answer_defs.specs.Defined.{AsDefined, IsCause}
use Rattle.field_read.specs.Causes.{cause_of}

-- what is at fault in a part is at fault in the whole
pub fails_whole : {A B : Type 0} (part : Result A Fault) (whole : Result B Fault) (e : ReadFault) → ((f : Fault) → part ≡ Err f → whole ≡ Err f) → IsCause part (cause_of e) → IsCause whole (cause_of e)
fails_whole part whole (Malformed entity what kind field) leads h = leads _ h
fails_whole part whole NoMemory leads h = tt

-- the fault that a `?` passes on, whatever is seen of an answer
pub passed : {A B : Type 0} (view : B → A) (told : Result A Fault) (r : Result B ReadFault) (e : ReadFault) → IsErrAnd r (λ x. x ≡ e) → IsCause told (cause_of e) → AsDefined view cause_of told r
passed view told (Ok x) e is h = absurd is
passed view told (Err y) e is h = rw is h

pub reads_passed : {A : Type 0} (told : Result A Fault) (r : Result A ReadFault) (e : ReadFault) → IsErrAnd r (λ x. x ≡ e) → IsCause told (cause_of e) → AsDefined (λ x. x) cause_of told r
reads_passed told r e is h = passed (λ x. x) told r e is h

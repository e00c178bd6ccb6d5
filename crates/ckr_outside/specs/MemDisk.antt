-- What a disk in memory answers.
use Rattle.std.specs.Prelude.{◌≡◌, ◌<◌, ◌≤◌, ◌⊎◌, ℕ, [], ◌∷◌, ◌++◌, List, length, Option, Result, IsErr, OnOk, OnErr}
use Rattle.ckr_outside.specs.Faults.{Rose, one_more}
use Rattle.ckr_outside.specs.Plan.{listed_calls, next_is_due}
use Rattle.ckr_outside.specs.Changes.{IsImage, LeftSince}
use Rattle.ckr_outside.specs.Stop.{left_after}
use Rattle.ckr_outside.specs.declared.failure.Failed.{Failed}
use Rattle.ckr_outside.specs.declared.changes.Pick.{Pick}
use Rattle.ckr_outside.specs.declared.memory_disk.DiskCall.{DiskCall}
use Rattle.ckr_outside.specs.declared.memory_disk.MemDisk.{MemDisk}

-- what a read gives
abbrev pub content_of : MemDisk → List ℕ
content_of disk = disk.bytes.items

-- what a stop at this moment may leave
abbrev pub MayLeave : MemDisk → List ℕ → Type 0
MayLeave disk = IsImage disk.first.items disk.changes.items

abbrev pub moment_of : MemDisk → ℕ
moment_of disk = length disk.changes.items

-- what a stop at that moment or a later one might have left
abbrev pub MightHaveLeft : MemDisk → ℕ → List ℕ → Type 0
MightHaveLeft disk = LeftSince disk.first.items disk.changes.items

abbrev pub faults_of : MemDisk → ℕ
faults_of disk = disk.plan.faults

-- how many of its faults were want of memory
abbrev pub lacks_of : MemDisk → ℕ
lacks_of disk = disk.plan.lacks

-- the number of the next call
abbrev pub next_number : MemDisk → ℕ
next_number disk = disk.plan.next

-- these calls fail, and all from the stop on
abbrev pub IsPlanned : MemDisk → List ℕ → Option ℕ → Type 0
IsPlanned disk failing stop_at = (listed_calls disk.plan.failing ≡ failing) × (disk.stop_at ≡ stop_at)

-- what a stop leaves, by what is picked for the pending ranges
abbrev pub left_of : Pick → MemDisk → List ℕ
left_of pick disk = left_after pick disk.first.items disk.first.items disk.changes.items

-- the next call is listed, or it comes from the stop on
abbrev pub NextIsDue : MemDisk → Type 0
NextIsDue disk = next_is_due disk.plan disk.stop_at

-- the record of its calls
abbrev pub calls_of : MemDisk → List DiskCall
calls_of disk = disk.calls.items

-- A call fails exactly where it is due to, or for want of memory, and it is recorded but in that last case.
pub record AnswersAsPlanned {T : Type 0} (old new : MemDisk) (call : DiskCall) (result : Result T Failed) : Type 0 where
  pub due : NextIsDue old → IsErr result
  pub lacking : lacks_of old < lacks_of new → IsErr result
  pub cause : IsErr result → NextIsDue old ⊎ Rose (lacks_of old) (lacks_of new)
  pub fault : OnErr result (faults_of new ≡ one_more (faults_of old))
  pub no_fault : OnOk result (faults_of new ≡ faults_of old)
  pub lacks : lacks_of old ≤ lacks_of new
  pub counted : next_number new ≡ one_more (next_number old)
  pub same_failing : new.plan.failing ≡ old.plan.failing
  pub same_stop : new.stop_at ≡ old.stop_at
  pub done : OnOk result (calls_of new ≡ calls_of old ++ call ∷ [])
  pub recorded : (calls_of new ≡ calls_of old ++ call ∷ []) ⊎ ((calls_of new ≡ calls_of old) × Rose (lacks_of old) (lacks_of new))

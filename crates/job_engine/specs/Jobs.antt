-- Jobs: each is an image whose state is kept sealed, in two slots of a disk.
use Rattle.std.specs.Prelude.{◌≡◌, ℕ, ◌<◌, ◌≤◌, nat_lt, nat_le, Bool, true, false, List, length, All, Option, Some, None, if◌then◌else◌}
use Rattle.std.specs.Prelude.{is_some, slice_get}
use Rattle.std.specs.List.{position}
use Rattle.std.specs.Str.{bytes_eq}
use Rattle.slb_image.specs.Fields.{image_of}
use Rattle.slb_image.specs.Faults.{image_fault}
use Rattle.slb_image.specs.declared.fault.ImageFault.{ImageFault}
use Rattle.job_store.specs.declared.sizes.TheConstants.{JOBS}
use Rattle.job_engine.specs.declared.ends.JobEnd.{JobEnd}
use Rattle.job_engine.specs.declared.ends.JobEnd.TheVariants as ends

-- a job: its name, and its image; the j-th of a list has the slots (j, 0) and (j, 1)
pub record Job : Type 0 where
  pub name : List ℕ
  pub image : List ℕ

-- the place of the job of this name, if there is one
unfoldable pub place_of : List Job → List ℕ → Option ℕ
place_of jobs name = position (λ job. bytes_eq job.name name) jobs

-- the bytes are an image, and a job's
pub record IsJobImage (image : List ℕ) : Type 0 where
  pub is_image : image_fault image ≡ None
  pub is_job : (image_of image).job ≡ true

-- the test of it
abbrev pub is_job_image : List ℕ → Option ImageFault → Bool
is_job_image image (Some fault) = false
is_job_image image None = (image_of image).job

-- jobs as they can be: no more than there are slots for, each with a job's image
pub record AreJobs (jobs : List Job) : Type 0 where
  pub few : length jobs ≤ JOBS
  pub images : All (λ job. IsJobImage job.image) jobs

-- a job of this name has this place and this image
pub record IsPlaceOf (jobs : List Job) (name : List ℕ) (j : ℕ) (image : List ℕ) : Type 0 where
  pub at : place_of jobs name ≡ Some j
  pub job : Job
  pub there : slice_get jobs j ≡ Some job
  pub image_is : image ≡ job.image
  pub few : j < JOBS
  pub is_job : IsJobImage image

-- more bytes than the inputs of a job's code may have, which are 1,024
abbrev pub are_long : List ℕ → Bool
are_long inputs = nat_lt 1024 (length inputs)

-- why a job can't be added, before anything is done for it: the first reason in this order
abbrev pub new_refusal : List Job → List ℕ → List ℕ → List ℕ → Option JobEnd
new_refusal jobs name image inputs =
    if is_some (place_of jobs name) then Some ends.Exists
    else if nat_le JOBS (length jobs) then Some ends.TooMany
    else if is_job_image image (image_fault image) then (if are_long inputs then Some ends.LongInput else None)
    else Some ends.BadImage

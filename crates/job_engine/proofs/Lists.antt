-- The list of jobs.
use Rattle.std.proofs.Common.{◌≡◌, ◌<◌, ℕ, List, [], ◌∷◌, length, map, slice_get, get_or, refl, sym, ap, subst, ◌∙◌, arith, inl, inr, length-append, Bool, Option, Some, Result, Ok, Err}
use Rattle.std.specs.Prelude.{position, option_map, not, unwrap_or}
use Rattle.std.specs.List.{prefix_len}
use Rattle.std.specs.Str.{bytes_eq}
use Rattle.std.proofs.lemmas.List.{length-map}
use Rattle.std.proofs.lemmas.List.Elements.{All-push, All-get_or}
use Rattle.std.proofs.lemmas.List.Quantifiers.{position-Some}
use Rattle.std.proofs.lemmas.Option.{slice_get-map, slice_get_cases, unwrap_or-slice_get}
use Rattle.late_launch.specs.Boards.{BoardParts, DarkParts}
use Rattle.job_engine.specs.declared.ends.JobEnd.{JobEnd}
use Rattle.job_engine.specs.declared.ends.JobEnd.TheVariants as ends
use Rattle.job_engine.specs.declared.jobs.Entry.{Entry}
use Rattle.job_engine.specs.Jobs.{Job, AreJobs, IsJobImage, IsPlaceOf, place_of}
use Rattle.job_engine.specs.Answers.{job_seen, jobs_seen, jobs_after}

-- how many elements come first of which something is true that is seen of them
prefix-map : {A B : Type 0} (p : B → Bool) (f : A → B) (xs : List A) → prefix_len p (map f xs) ≡ prefix_len (λ x. p (f x)) xs
prefix-map p f [] = refl
prefix-map p f (x ∷ xs) = rw (prefix-map p f xs) refl

-- the first element of which something is true that is seen of it
position-map : {A B : Type 0} (p : B → Bool) (f : A → B) (xs : List A) → position p (map f xs) ≡ position (λ x. p (f x)) xs
position-map p f xs = rw (prefix-map (λ y. not (p y)) f xs, length-map xs f) refl

pub place_seen : (entries : List Entry) (name : List ℕ) → place_of (jobs_seen entries) name ≡ position (λ entry. bytes_eq (job_seen entry).name name) entries
unfolding place_of
place_seen entries name = position-map (λ (job : Job). bytes_eq job.name name) job_seen entries

-- an element that there is
there_or : {A : Type 0} (xs : List A) (j : ℕ) (d : A) → j < length xs → slice_get xs j ≡ Some (get_or xs j d)
there_or xs j d within =
    elim (slice_get_cases xs j).1 [
      | inl some ↦ some.2 ∙ ap (λ x. let o : Option _ = Some x in o) (sym (sym (unwrap_or-slice_get xs j d) ∙ ap (λ o. unwrap_or o d) some.2))
      | inr past ↦ absurd (let far = past.0 in omega arith)
    ]

-- the job at a place
pub job_there : (entries : List Entry) (name : List ℕ) (j : ℕ) (d : Entry) → AreJobs (jobs_seen entries)
    → position (λ entry. bytes_eq (job_seen entry).name name) entries ≡ Some j → IsPlaceOf (jobs_seen entries) name j (get_or entries j d).image.bytes
job_there entries name j d are is =
    let entry = get_or entries j d in
    let within : j < length entries = (position-Some (λ entry. bytes_eq (job_seen entry).name name) entries j d is).0 in
    let there : slice_get (jobs_seen entries) j ≡ Some (job_seen entry) = slice_get-map job_seen entries j ∙ ap (option_map job_seen) (there_or entries j d within) in
    let few = are.few in
    let seen : length (jobs_seen entries) ≡ length entries = length-map entries job_seen in
    let each = All-get_or (λ (job : Job). IsJobImage job.image) (jobs_seen entries) j (job_seen entry) (omega arith) are.images in
    record {
      at = place_seen entries name ∙ is;
      job = job_seen entry;
      there = there;
      image_is = refl;
      few = omega arith;
      is_job = subst (λ (job : Job). IsJobImage job.image) (sym (unwrap_or-slice_get (jobs_seen entries) j (job_seen entry)) ∙ ap (λ (o : Option Job). unwrap_or o (job_seen entry)) there) each;
    }

-- where a job was added, the list is one of jobs again
pub still_jobs : (jobs : List Job) (name image : List ℕ) (answer : Result (BoardParts × JobEnd) DarkParts) → AreJobs jobs → length jobs < 8 → IsJobImage image
    → AreJobs (jobs_after jobs name image answer)
still_jobs jobs name image (Ok (board, ends.Done n)) are few is_job = record {
  few = omega (arith, length-append jobs (record { name = name; image = image } ∷ []));
  images = All-push (λ (job : Job). IsJobImage job.image) jobs (record { name = name; image = image }) are.images is_job;
}
still_jobs jobs name image (Ok (board, ends.Found s)) are few is_job = are
still_jobs jobs name image (Ok (board, ends.Unknown)) are few is_job = are
still_jobs jobs name image (Ok (board, ends.Exists)) are few is_job = are
still_jobs jobs name image (Ok (board, ends.NoCounterLeft)) are few is_job = are
still_jobs jobs name image (Ok (board, ends.Lost)) are few is_job = are
still_jobs jobs name image (Ok (board, ends.DiskFault)) are few is_job = are
still_jobs jobs name image (Ok (board, ends.Ended byte)) are few is_job = are
still_jobs jobs name image (Ok (board, ends.NoPlace)) are few is_job = are
still_jobs jobs name image (Ok (board, ends.LongInput)) are few is_job = are
still_jobs jobs name image (Ok (board, ends.BadImage)) are few is_job = are
still_jobs jobs name image (Ok (board, ends.TooMany)) are few is_job = are
still_jobs jobs name image (Ok (board, ends.NoMemory)) are few is_job = are
still_jobs jobs name image (Err dark) are few is_job = are

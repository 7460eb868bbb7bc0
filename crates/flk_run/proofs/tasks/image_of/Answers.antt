use Rattle.std.proofs.Common.{ap, ◌∙◌, refl}
use Rattle.std.specs.Prelude.{Err}
use Rattle.slb_image.specs.declared.building.BuildError.TheVariants.{Image}
use Rattle.flk_run.specs.Tasks.{BindImage}
use Rattle.flk_run.proofs.PlatformLemmas.{has_image, no_fault}
use Rattle.flk_run.proofs.tasks.image_of.Goals as goal

pub returns-in-Ok-clause-task : goal.returns-in-Ok-clause-task
returns-in-Ok-clause-task c =
    let none = has_image Image c.build.result c.in-Ok.image _ c.in-Ok.is c.build.ensures.fault in
    rw none (ap (λ i. BindImage c.args.name.now i) c.in-Ok.ensures.packed)

pub returns-in-Err-NoMemory-clause-memory : goal.returns-in-Err-NoMemory-clause-memory
returns-in-Err-NoMemory-clause-memory c err =
    let want = c.in-Err-NoMemory.is ∙ ap (λ x. Err x) c.in-Err-NoMemory.field-0-is in
    no_fault Image c.build.result _ (λ f bad. cc (want, bad)) c.build.ensures.fault

pub returns-in-Err-Image-clause-task : goal.returns-in-Err-Image-clause-task
returns-in-Err-Image-clause-task c =
    let e = (c.build.ensures.fault c.in-Err-Image.fault).0
    (c.in-Err-Image.is ∙ ap (λ x. Err x) c.in-Err-Image.field-0-is) in
    rw e refl

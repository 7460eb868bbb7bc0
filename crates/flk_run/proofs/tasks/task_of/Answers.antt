use Rattle.flk_run.proofs.tasks.task_of.Goals as goal

pub returns-in-Image-clause-task : goal.returns-in-Image-clause-task
returns-in-Image-clause-task c =
    rw (c.in-Image.is, ← c.as_slice-in-Image.ensures) c.image_task.ensures.task

pub returns-in-Session-clause-task : goal.returns-in-Session-clause-task
returns-in-Session-clause-task c = rw c.in-Session.is c.session_task.ensures.task

pub returns-in-Quote-clause-task : goal.returns-in-Quote-clause-task
returns-in-Quote-clause-task c = rw c.in-Quote.is c.quote_task.ensures.task

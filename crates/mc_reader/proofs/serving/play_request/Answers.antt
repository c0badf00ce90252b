use Rattle.mc_reader.proofs.serving.play_request.Goals as goal

pub returns-in-Some-clause-plays : goal.returns-in-Some-clause-plays
returns-in-Some-clause-plays g c =
    rw (← c.in-Some.ensures.line) (λ s n at. let done = c.line-in-Some.ensures.done s n at in (done.0, done.1.stepped))

use Rattle.lab_search.proofs.CourseLemmas.{if_ok}
use Rattle.lab_search.proofs.rounds.Search.cut_with.Goals as goal

pub returns : goal.returns
returns g c = if_ok _ _ c.attempt.result (λ a f d ns n m h k. f d ns n m h (k, c.requires.counted)) c.attempt.ensures

pub attempt-requires : goal.attempt-requires
attempt-requires g c = let q = c.requires.can in (q.0, q.1, q.2, q.3, q.4, (q.5, c.requires.counted))

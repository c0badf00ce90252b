use Rattle.std.proofs.Common.{refl}
use Rattle.lab_key.proofs.Entries.{keeps_beside, keeps_staged, kept_new, kept_old}
use Rattle.lab_key.proofs.kept.Rosters.keep.Goals as goal

pub returns-in_err-key-clause-keeps : goal.returns-in_err-key-clause-keeps
returns-in_err-key-clause-keeps c b l shown device n d m h = keeps_beside _ _ _ n d m c.in_err-key.ensures.keeps refl refl h

pub returns-in_err-words-clause-keeps : goal.returns-in_err-words-clause-keeps
returns-in_err-words-clause-keeps c b l shown device n d m h = keeps_beside _ _ _ n d m c.in_ok-key.ensures.keeps refl refl h

pub returns-in_default-clause-keeps : goal.returns-in_default-clause-keeps
returns-in_default-clause-keeps c b l shown device n d m h = keeps_beside _ _ _ n d m c.in_ok-key.ensures.keeps refl c.in_default.ensures.err h

pub returns-in_default-insert_full-clause-keeps : goal.returns-in_default-insert_full-clause-keeps
returns-in_default-insert_full-clause-keeps c b l shown device n d m h =
    keeps_staged _ c.args.self.now _ (record { roster = c.in_ok-key.key.roster; live = c.in_ok-key.key.live })
    (record { stage = c.in-Ok.staged.0; statics = c.in_ok-key.key.statics }) c.args.live _ b l
    (record {
      is_key = c.in_ok-key.ensures.of b l shown;
      shows = shown;
      entries = c.in-Ok.ensures.entries;
      distinct = c.in-Ok.ensures.unique;
    })
    n d m c.in_ok-key.ensures.keeps c.in_default-insert_full.ensures.err h

pub returns-clause-of : goal.returns-clause-of
returns-clause-of c b l shown device =
    kept_new _ c.args.self.now _ (record { roster = c.in_ok-key.key.roster; live = c.in_ok-key.key.live })
    (record { stage = c.in-Ok.staged.0; statics = c.in_ok-key.key.statics }) c.args.live _ c.in_ok-words.words b l
    (record {
      is_key = c.in_ok-key.ensures.of b l shown;
      shows = shown;
      laid = c.in_ok-words.ensures.laid;
      device = device;
      number = c.in-Ok.ensures.index;
      stages = c.in-Ok.ensures.entries;
      distinct_stages = c.in-Ok.ensures.unique;
      entries = c.in-Ok-insert_full.ensures.entries;
      distinct = c.in-Ok-insert_full.ensures.unique;
    })
    _ c.in-Ok-insert_full.ensures.index

pub returns-clause-keeps : goal.returns-clause-keeps
returns-clause-keeps c b l shown device n d m h =
    kept_old _ c.args.self.now _ (record { roster = c.in_ok-key.key.roster; live = c.in_ok-key.key.live })
    (record { stage = c.in-Ok.staged.0; statics = c.in_ok-key.key.statics }) c.args.live _ c.in_ok-words.words b l
    (record {
      is_key = c.in_ok-key.ensures.of b l shown;
      shows = shown;
      laid = c.in_ok-words.ensures.laid;
      device = device;
      number = c.in-Ok.ensures.index;
      stages = c.in-Ok.ensures.entries;
      distinct_stages = c.in-Ok.ensures.unique;
      entries = c.in-Ok-insert_full.ensures.entries;
      distinct = c.in-Ok-insert_full.ensures.unique;
    })
    n d m c.in_ok-key.ensures.keeps h

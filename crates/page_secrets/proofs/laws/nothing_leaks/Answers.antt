use Rattle.content_state.specs.Viewer.{viewer_of}
use Rattle.page_secrets.proofs.Likeness.{look_alike}
use Rattle.page_secrets.proofs.LikePages.{same_pages}
use Rattle.page_secrets.proofs.laws.nothing_leaks.Goals as goal

pub returns : goal.returns
returns c = λ s s' ask now one other alike status body.
    same_pages s.rows s'.rows ask now one other (λ c. look_alike (viewer_of s.rows ask.cookie now) s.rows s'.rows c (alike.rows c)) status body

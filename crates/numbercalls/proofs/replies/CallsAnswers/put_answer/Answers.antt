use Rattle.text.proofs.Putting.{then}
use Rattle.numbercalls.specs.Answers.{answered}
use Rattle.numbercalls.proofs.replies.CallsAnswers.put_answer.Goals as goal

pub returns : goal.returns
unfolding answered
returns c = then c.put_reply.ensures c.put.ensures

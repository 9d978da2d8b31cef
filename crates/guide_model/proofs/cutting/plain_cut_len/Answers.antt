use Rattle.guide_model.specs.Cutting.{IsLongestCut}
use Rattle.guide_model.proofs.CutFacts.{cut_size-is}
use Rattle.guide_model.proofs.LenFacts.{plain_cut-all}
use Rattle.guide_model.proofs.cutting.plain_cut_len.Goals as goal

cut : (c : goal.After-min) → IsLongestCut c.args.text.now c.min.result
cut c = plain_cut-all c.args.text.now c.min.result c.utf8.text c.min.ensures c.requires

pub returns-clause-size : goal.returns-clause-size
returns-clause-size c = cut_size-is c.args.text.now c.min.result c.utf8.text (cut c)

pub returns-clause-whole : goal.returns-clause-whole
returns-clause-whole c = (cut c).whole

pub returns-clause-fits : goal.returns-clause-fits
returns-clause-fits c = (cut c).fits

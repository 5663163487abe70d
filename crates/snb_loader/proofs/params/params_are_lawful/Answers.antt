use Rattle.snb_loader.proofs.ParamFacts.{params_lawful}
use Rattle.snb_loader.proofs.FileSinkFacts.{params_ended, params_hear, params_turned}
use Rattle.snb_loader.proofs.params.params_are_lawful.Goals as goal

pub returns-clause-lawful : goal.returns-clause-lawful
returns-clause-lawful c = params_lawful c.one_query.ensures.one c.one_query.ensures.none c.one_query.ensures.bad

pub returns-clause-right : goal.returns-clause-right
returns-clause-right c = record {
  lawful = params_lawful c.one_query.ensures.one c.one_query.ensures.none c.one_query.ensures.bad;
  fits = λ file known number line x text ends s. tt;
  hears = params_hear;
  turned = params_turned;
  ended = params_ended;
}

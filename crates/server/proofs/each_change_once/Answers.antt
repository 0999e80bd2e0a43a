use Rattle.server.specs.Requests.{coap}
use Rattle.server.proofs.Keeping.{each_change_is_once}
use Rattle.server.proofs.Framed.{coap_framing}
use Rattle.server.proofs.each_change_once.Goals as goal

pub returns : goal.returns
returns g c = each_change_is_once coap coap_framing g.R.Resource.meaning g.R.Resource.lawful

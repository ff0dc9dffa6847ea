mod CityAlerts
